use Rattle.std.proofs.Common.{◌≡◌, ℕ, ◌<◌, ◌≤◌, length}
use Rattle.graph.specs.Graph.{spare_of}
use Rattle.input_search.specs.Added.{list_at}
use Rattle.input_search.proofs.node_links.reserve_all.Given as goal

abbrev pub invariant-loop-number : goal.invariant-loop-number
invariant-loop-number l = record {
  nodes : l.graph.nodes ≡ l.fn.graph.nodes;
  room : (key : ℕ) → key < l.number → length (list_at l.lists key) ≤ spare_of l.graph key;
}
