use Rattle.graph_file.proofs.OneFile.{one_file}
use Rattle.graph_file.proofs.laws.a_file_has_one_graph.Goals as goal

pub returns : goal.returns
returns c = λ bytes a b h k. one_file bytes a b h k
