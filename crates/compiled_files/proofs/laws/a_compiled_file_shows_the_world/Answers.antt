use Rattle.compiled_files.proofs.CompiledFiles.{file_shows}
use Rattle.compiled_files.proofs.laws.a_compiled_file_shows_the_world.Goals as goal

pub returns : goal.returns
returns c = λ b whole marks keep g compiled file h acts views events shown. file_shows b whole marks keep g compiled file h acts views events shown
