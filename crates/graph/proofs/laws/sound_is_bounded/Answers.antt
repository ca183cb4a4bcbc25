use Rattle.graph.proofs.BoundSteps.{graph_is_bounded}
use Rattle.graph.proofs.laws.sound_is_bounded.Goals as goal

pub returns : goal.returns
returns c = graph_is_bounded
