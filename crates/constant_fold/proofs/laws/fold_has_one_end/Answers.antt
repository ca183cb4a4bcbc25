use Rattle.constant_fold.proofs.OneEnd.{folded_one}
use Rattle.constant_fold.proofs.laws.fold_has_one_end.Goals as goal

pub returns : goal.returns
returns c = folded_one
