use Rattle.compiler.proofs.CompiledLaws.{compiled_sound}
use Rattle.compiler.proofs.laws.compiled_is_sound.Goals as goal

pub returns : goal.returns
returns c = compiled_sound
