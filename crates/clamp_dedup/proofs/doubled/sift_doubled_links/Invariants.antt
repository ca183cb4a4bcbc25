use Rattle.std.proofs.Common.{◌≡◌, ◌-◌, length}
use Rattle.graph.specs.Edits.{set_links}
use Rattle.graph.specs.Steps.{Dedups}
use Rattle.pass_frame.specs.Took.{Took}
use Rattle.clamp_dedup.proofs.DedupSteps.{Rest}
use Rattle.clamp_dedup.proofs.doubled.sift_doubled_links.Given as goal

abbrev pub invariant-loop-link : goal.invariant-loop-link
invariant-loop-link l = record {
  took : Took Dedups l.fn.graph.nodes l.took (set_links l.fn.graph.nodes l.key l.links.items);
  rest : Rest l.links.items l.links.index l.weights.slots.items;
  size : length l.weights.slots.items ≡ length l.initial.weights.slots.items;
}

abbrev pub decreases-loop-link : goal.decreases-loop-link
decreases-loop-link l = length l.links.items - l.links.index
