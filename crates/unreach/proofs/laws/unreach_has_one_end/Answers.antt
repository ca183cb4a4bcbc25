use Rattle.unreach.proofs.OneEnd.{unreached_one}
use Rattle.unreach.proofs.laws.unreach_has_one_end.Goals as goal

pub returns : goal.returns
returns c = unreached_one
