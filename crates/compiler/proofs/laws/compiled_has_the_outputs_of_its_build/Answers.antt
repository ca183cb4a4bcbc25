use Rattle.compiler.proofs.OutputPlaces.{compiled_outputs}
use Rattle.compiler.proofs.laws.compiled_has_the_outputs_of_its_build.Goals as goal

pub returns : goal.returns
returns c = λ b whole marks keep g compiled. compiled_outputs b whole marks keep g compiled
