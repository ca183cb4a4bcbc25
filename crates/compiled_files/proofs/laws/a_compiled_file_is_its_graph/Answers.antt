use Rattle.compiled_files.proofs.CompiledFiles.{compiled_file}
use Rattle.compiled_files.proofs.laws.a_compiled_file_is_its_graph.Goals as goal

pub returns : goal.returns
returns c = λ b whole marks keep g compiled file h. compiled_file b whole marks keep g compiled file h
