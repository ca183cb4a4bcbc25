use Rattle.std.proofs.Common.{◌≡◌, length}
use Rattle.pass_tests.proofs.graph_tests.graph_of.Given as goal

abbrev pub invariant-loop-pos : goal.invariant-loop-pos
invariant-loop-pos l = length l.graph.nodes ≡ l.pos-index
