use Rattle.graph.proofs.RefineSteps.{refines_refl}
use Rattle.graph.proofs.laws.refines_itself.Goals as goal

pub returns : goal.returns
returns c = refines_refl
