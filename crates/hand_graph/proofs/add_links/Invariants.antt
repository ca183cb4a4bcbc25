use Rattle.std.proofs.Common.{◌≡◌, length}
use Rattle.hand_graph.proofs.add_links.Given as goal

abbrev pub invariant-loop-to : goal.invariant-loop-to
invariant-loop-to l = length l.graph.nodes ≡ length l.initial.graph.nodes
