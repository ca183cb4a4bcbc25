use Rattle.compiler.proofs.OneGraph.{one_graph}
use Rattle.compiler.proofs.laws.a_build_has_one_graph.Goals as goal

pub returns : goal.returns
returns c = one_graph
