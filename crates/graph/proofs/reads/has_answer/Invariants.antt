use Rattle.std.proofs.Common.{◌≡◌, ℕ, ◌<◌, false}
use Rattle.graph.specs.Graph.{node_at}
use Rattle.graph.specs.Stored.{plain_nodes}
use Rattle.graph.specs.Clicks.{answers_at}
use Rattle.graph.proofs.reads.has_answer.Given as goal

abbrev pub invariant-loop-number : goal.invariant-loop-number
invariant-loop-number l = (k : ℕ) → k < l.number → answers_at (node_at (plain_nodes l.nodes.entries) k) l.pos l.click ≡ false
