use Rattle.clamp_dedup.proofs.DedupSteps.{SingleBelow}
use Rattle.clamp_dedup.proofs.doubled.are_single.Given as goal

abbrev pub invariant-loop-index : goal.invariant-loop-index
invariant-loop-index l = SingleBelow l.links l.index
