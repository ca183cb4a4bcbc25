use Rattle.graph_file.proofs.ReadBack.{read_back}
use Rattle.graph_file.proofs.laws.what_is_written_is_read.Goals as goal

pub returns : goal.returns
returns c = λ g fits. read_back g fits
