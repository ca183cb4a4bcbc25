use Rattle.compiled_files.proofs.CompiledFiles.{file_outputs}
use Rattle.compiled_files.proofs.laws.a_compiled_file_has_the_outputs_of_its_build.Goals as goal

pub returns : goal.returns
returns c = λ b whole marks keep g compiled file h. file_outputs b whole marks keep g compiled file h
