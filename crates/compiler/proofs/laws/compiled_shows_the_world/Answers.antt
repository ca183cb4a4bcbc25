use Rattle.compiler.proofs.CompiledLaws.{compiled_shows}
use Rattle.compiler.proofs.laws.compiled_shows_the_world.Goals as goal

pub returns : goal.returns
returns c = compiled_shows
