use Rattle.std.proofs.Common.{◌≡◌, ℕ, ◌<◌, get_or, length}
use Rattle.graph.specs.Graph.{node_at}
use Rattle.graph.specs.Steps.{bound_at}
use Rattle.unreach.proofs.bounds.Bounds.new.Given as goal

abbrev pub invariant-loop-key : goal.invariant-loop-key
invariant-loop-key l = record {
  found : (i : ℕ) → i < l.key-index → get_or l.list.items (get_or l.keys i 0) 0 ≡ bound_at l.graph.nodes (node_at l.graph.nodes (get_or l.keys i 0));
  room : (i : ℕ) → i < length l.keys → get_or l.keys i 0 < length l.list.items;
}
