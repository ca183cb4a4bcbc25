use Rattle.std.proofs.Common.{◌≡◌, length}
use Rattle.hand_graph.proofs.graph_of.Given as goal

abbrev pub invariant-loop-pos : goal.invariant-loop-pos
invariant-loop-pos l = length l.graph.nodes ≡ l.pos-index
