use Rattle.graph.proofs.RefineSteps.{refines_then}
use Rattle.graph.proofs.laws.refines_further.Goals as goal

pub returns : goal.returns
returns c = refines_then
