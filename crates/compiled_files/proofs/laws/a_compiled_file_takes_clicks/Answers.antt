use Rattle.compiled_files.proofs.CompiledFiles.{file_takes}
use Rattle.compiled_files.proofs.laws.a_compiled_file_takes_clicks.Goals as goal

pub returns : goal.returns
returns c = λ b whole marks keep g compiled file h acts taken. file_takes b whole marks keep g compiled file h acts taken
