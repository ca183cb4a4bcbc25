use Rattle.power_rules.proofs.Joining.{shows_joined}
use Rattle.power_rules.proofs.laws.runs_can_be_joined.Goals as goal

pub returns : goal.returns
returns c = shows_joined
