use Rattle.prune.proofs.OrderSteps.{pruned_refines_with}
use Rattle.prune.proofs.laws.dropped_nodes_fire_last.Goals as goal

pub returns : goal.returns
returns c = pruned_refines_with
