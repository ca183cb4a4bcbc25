use Rattle.std.proofs.Common.{◌≤◌, length}
use Rattle.rp_io.specs.Causes.{StaysCount, PartWay}
use Rattle.rp_io.proofs.whole.put_all.Given as goal

abbrev pub invariant-pieces : goal.invariant-pieces
invariant-pieces g l = record {
  part : PartWay (g.S.Sink.written l.initial.sink) (g.S.Sink.written l.sink) l.bytes l.rest;
  later : g.S.Sink.faults l.initial.sink ≤ g.S.Sink.faults l.sink;
  stays : StaysCount (g.S.Sink.faults l.initial.sink) (g.S.Sink.faults l.sink);
}

abbrev pub decreases-pieces : goal.decreases-pieces
decreases-pieces g l = length l.rest
