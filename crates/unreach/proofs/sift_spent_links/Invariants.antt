use Rattle.std.proofs.Common.{◌≡◌, ℕ, ◌-◌, Some, length}
use Rattle.std.specs.Prelude.{slice_get}
use Rattle.graph.specs.declared.Link.{Link}
use Rattle.graph.specs.Edits.{set_links}
use Rattle.graph.specs.Steps.{Unreaches}
use Rattle.graph.proofs.LinkSteps.{LinksBelow}
use Rattle.pass_frame.specs.Took.{Took}
use Rattle.unreach.specs.Reached.{HasBound, IsReaching, SameBounds}
use Rattle.unreach.proofs.sift_spent_links.Given as goal

abbrev pub invariant-loop-link : goal.invariant-loop-link
invariant-loop-link l = record {
  took : Took Unreaches l.fn.graph.nodes l.took (set_links l.fn.graph.nodes l.key l.links.items);
  reaching : LinksBelow (IsReaching l.bounds.list.items) l.links.items l.links.index;
  same : SameBounds l.fn.graph.nodes (set_links l.fn.graph.nodes l.key l.links.items);
  bounded : (i : ℕ) (link : Link) → slice_get l.links.items i ≡ Some link → HasBound (set_links l.fn.graph.nodes l.key l.links.items) l.bounds.list.items link.from;
}

abbrev pub decreases-loop-link : goal.decreases-loop-link
decreases-loop-link l = length l.links.items - l.links.index
