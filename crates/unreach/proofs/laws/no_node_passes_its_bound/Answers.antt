use Rattle.unreach.proofs.RunsKeep.{never_more}
use Rattle.unreach.proofs.laws.no_node_passes_its_bound.Goals as goal

pub returns : goal.returns
returns c = never_more
