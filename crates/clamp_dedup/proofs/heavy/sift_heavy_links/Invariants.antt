use Rattle.std.proofs.Common.{◌-◌, length}
use Rattle.graph.specs.Edits.{set_links}
use Rattle.graph.specs.Steps.{Clamps}
use Rattle.graph.proofs.LinkSteps.{LinksBelow}
use Rattle.pass_frame.specs.Took.{Took}
use Rattle.clamp_dedup.specs.Clamped.{IsLight}
use Rattle.clamp_dedup.proofs.heavy.sift_heavy_links.Given as goal

abbrev pub invariant-loop-link : goal.invariant-loop-link
invariant-loop-link l = record {
  took : Took Clamps l.fn.graph.nodes l.took (set_links l.fn.graph.nodes l.key l.links.items);
  light : LinksBelow IsLight l.links.items l.links.index;
}

abbrev pub decreases-loop-link : goal.decreases-loop-link
decreases-loop-link l = length l.links.items - l.links.index
