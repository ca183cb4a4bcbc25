use Rattle.circuit.proofs.FiringLaw.{fires_is_firing_list}
use Rattle.circuit.proofs.laws.one_by_one_is_a_firing_list.Goals as goal

pub returns : goal.returns
returns g c = fires_is_firing_list
