use Rattle.std.proofs.Common.{◌≡◌, length}
use Rattle.plain_machine.proofs.tests.graph_of.Given as goal

abbrev pub invariant-loop-row : goal.invariant-loop-row
invariant-loop-row l = length l.graph.nodes ≡ l.row-index
