use Rattle.prune.proofs.OneEnd.{pruned_one}
use Rattle.prune.proofs.laws.prune_has_one_end.Goals as goal

pub returns : goal.returns
returns c = pruned_one
