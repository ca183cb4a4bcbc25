use Rattle.generator.proofs.Whole.{made_whole}
use Rattle.generator.proofs.laws.made_builds_are_whole.Goals as goal

pub returns : goal.returns
returns c = made_whole
