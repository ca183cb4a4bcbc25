use Rattle.graph_file.proofs.FileBack.{file_back}
use Rattle.graph_file.proofs.laws.what_is_written_is_a_file.Goals as goal

pub returns : goal.returns
returns c = λ g fits. file_back g fits
