use Rattle.power_rules.proofs.Joining.{plays_bounded}
use Rattle.power_rules.proofs.laws.values_stay_in_bounds.Goals as goal

pub returns : goal.returns
returns c = plays_bounded
