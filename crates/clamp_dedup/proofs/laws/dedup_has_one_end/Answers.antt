use Rattle.clamp_dedup.proofs.DedupEnd.{deduped_one}
use Rattle.clamp_dedup.proofs.laws.dedup_has_one_end.Goals as goal

pub returns : goal.returns
returns c = deduped_one
