use Rattle.wire_net.specs.Laws.{least_distances}
use Rattle.input_search.proofs.laws.powers_are_by_distance.Goals as goal

pub returns : goal.returns
returns c = least_distances
