use Rattle.std.proofs.Common.{◌≤◌, length, Some}
use Rattle.graph.specs.RawNodes.{has_node, bare_node}
use Rattle.node_finder.proofs.FoundNodes.{MadeBelow}
use Rattle.node_finder.proofs.find.Given as goal

abbrev pub invariant-loop-cell : goal.invariant-loop-cell
invariant-loop-cell l = record {
  made : MadeBelow (has_node l.build l.marks) (λ p. Some (bare_node l.build l.marks p)) l.build l.graph.nodes l.cell;
  few : length l.graph.nodes ≤ l.cell;
}
