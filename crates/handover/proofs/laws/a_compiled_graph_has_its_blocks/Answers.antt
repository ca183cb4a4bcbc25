use Rattle.compiler.proofs.BuildPlaces.{compiled_blocks}
use Rattle.handover.proofs.laws.a_compiled_graph_has_its_blocks.Goals as goal

pub returns : goal.returns
returns c = λ b marks keep g compiled. record { blocks = compiled_blocks b marks keep g compiled }
