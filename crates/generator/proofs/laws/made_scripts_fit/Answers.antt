use Rattle.generator.proofs.Fit.{script_fit}
use Rattle.generator.proofs.laws.made_scripts_fit.Goals as goal

pub returns : goal.returns
returns c = script_fit
