use Rattle.compiler.proofs.BuildPlaces.{compiled_parts, compiled_blocks}
use Rattle.compiler.proofs.laws.places_have_their_components.Goals as goal

pub returns-clause-component : goal.returns-clause-component
returns-clause-component c = λ b marks keep g compiled key p s. compiled_parts b marks keep g compiled key p s

pub returns-clause-block : goal.returns-clause-block
returns-clause-block c = λ b marks keep g compiled key p s. compiled_blocks b marks keep g compiled key p s
