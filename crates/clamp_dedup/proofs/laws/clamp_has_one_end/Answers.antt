use Rattle.clamp_dedup.proofs.ClampEnd.{clamped_one}
use Rattle.clamp_dedup.proofs.laws.clamp_has_one_end.Goals as goal

pub returns : goal.returns
returns c = clamped_one
