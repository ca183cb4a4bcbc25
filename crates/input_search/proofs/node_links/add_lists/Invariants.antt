use Rattle.std.proofs.Common.{ℕ, ◌<◌, ◌≤◌, length, take}
use Rattle.graph.specs.Graph.{spare_of}
use Rattle.input_search.specs.Added.{plain_lists, list_at, AreFilled}
use Rattle.input_search.proofs.node_links.add_lists.Given as goal

abbrev pub invariant-loop-number : goal.invariant-loop-number
invariant-loop-number l = record {
  filled : AreFilled (take l.number (plain_lists l.lists)) l.fn.graph.nodes l.graph.nodes;
  room : (key : ℕ) → l.number ≤ key → key < l.count → length (list_at l.lists key) ≤ spare_of l.graph key;
}
