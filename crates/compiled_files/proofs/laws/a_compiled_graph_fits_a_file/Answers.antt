use Rattle.compiled_files.proofs.CompiledFiles.{compiled_fits}
use Rattle.compiled_files.proofs.laws.a_compiled_graph_fits_a_file.Goals as goal

pub returns : goal.returns
returns c = λ b whole marks keep g compiled links. compiled_fits b whole marks keep g compiled links
