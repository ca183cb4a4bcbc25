use Rattle.std.proofs.Common.{◌≡◌, ◌≤◌, drop}
use Rattle.std.specs.List.{flat_map}
use Rattle.rp_io.specs.Causes.{PartWay}
use Rattle.report.specs.FireLine.{fire_line}
use Rattle.player.proofs.graph_play.put_fires.Given as goal

abbrev pub invariant-loop-pos : goal.invariant-loop-pos
invariant-loop-pos g l = record {
  part : PartWay (g.O.Sink.written l.initial.out) (g.O.Sink.written l.out) (flat_map fire_line l.places) (flat_map fire_line (drop l.pos-index l.places));
  room : l.line.room ≡ l.initial.line.room;
  later : g.O.Sink.faults l.initial.out ≤ g.O.Sink.faults l.out;
}
