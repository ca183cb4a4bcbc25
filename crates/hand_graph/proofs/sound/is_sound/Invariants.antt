use Rattle.std.proofs.Common.{◌≡◌, ℕ, ◌<◌, Some}
use Rattle.graph.specs.Graph.{Node, node_at}
use Rattle.graph.specs.Sound.{IsSoundNode}
use Rattle.hand_graph.specs.Apart.{IsAloneBefore}
use Rattle.hand_graph.proofs.sound.is_sound.Given as goal

abbrev pub invariant-loop-number : goal.invariant-loop-number
invariant-loop-number l = record {
  sound : (k : ℕ) → k < l.number → (node : Node) → node_at l.graph.nodes k ≡ Some node → IsSoundNode l.graph.nodes node;
  alone : (k : ℕ) → k < l.number → IsAloneBefore l.graph.nodes k;
}
