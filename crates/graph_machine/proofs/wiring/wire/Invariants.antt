use Rattle.std.proofs.Common.{◌≡◌, length}
use Rattle.graph_machine.specs.Wired.{given}
use Rattle.graph_machine.specs.Wiring.{WiredBelow}
use Rattle.graph_machine.proofs.wiring.wire.Given as goal

abbrev pub invariant-loop-key : goal.invariant-loop-key
invariant-loop-key l = record {
  wired : WiredBelow l.graph.nodes l.key (length l.outs) (given l.outs) l.tables l.rows;
  whole : length l.tables ≡ l.key;
}
