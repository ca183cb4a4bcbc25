use Rattle.std.proofs.Common.{◌≡◌, ◌≢◌, ℕ, ◌<◌, Some}
use Rattle.graph.specs.Graph.{Node, node_at}
use Rattle.hand_graph.proofs.sound.is_alone.Given as goal

abbrev pub invariant-loop-other : goal.invariant-loop-other
invariant-loop-other l = (other : ℕ) (before : Node) → other < l.other → node_at l.graph.nodes other ≡ Some before → before.pos ≢ l.node.pos
