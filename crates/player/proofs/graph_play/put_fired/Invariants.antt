use Rattle.std.proofs.Common.{◌≡◌, ◌≤◌, drop}
use Rattle.std.specs.List.{flat_map}
use Rattle.rp_io.specs.Causes.{PartWay}
use Rattle.player.specs.Noted.{node_lines}
use Rattle.player.proofs.graph_play.put_fired.Given as goal

abbrev pub invariant-loop-key : goal.invariant-loop-key
invariant-loop-key g l = record {
  part : PartWay (g.O.Sink.written l.initial.out) (g.O.Sink.written l.out) (flat_map (node_lines l.graph.nodes) l.keys) (flat_map (node_lines l.graph.nodes) (drop l.key-index l.keys));
  room : l.line.room ≡ l.initial.line.room;
  later : g.O.Sink.faults l.initial.out ≤ g.O.Sink.faults l.out;
}
