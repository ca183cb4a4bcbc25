use Rattle.std.proofs.Common.{◌≡◌, length}
use Rattle.clamp_dedup.proofs.DedupSteps.{Noted}
use Rattle.clamp_dedup.proofs.doubled.note_links.Given as goal

abbrev pub invariant-loop-link : goal.invariant-loop-link
invariant-loop-link l = record {
  noted : Noted l.links l.link-index l.weights.slots.items;
  size : length l.weights.slots.items ≡ length l.initial.weights.slots.items;
}
