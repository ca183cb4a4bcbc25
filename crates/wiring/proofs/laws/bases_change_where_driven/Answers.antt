use Rattle.wiring.proofs.Reached.{was_right}
use Rattle.wiring.proofs.laws.bases_change_where_driven.Goals as goal

pub returns : goal.returns
returns c = was_right
