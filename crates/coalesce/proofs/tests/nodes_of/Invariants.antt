use Rattle.std.proofs.Common.{◌≡◌, length}
use Rattle.coalesce.proofs.tests.nodes_of.Given as goal

abbrev pub invariant-loop-row : goal.invariant-loop-row
invariant-loop-row l = length l.graph.nodes ≡ l.row-index
