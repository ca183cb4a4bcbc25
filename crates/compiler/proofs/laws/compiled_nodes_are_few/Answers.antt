use Rattle.compiler.proofs.NodeCounts.{compiled_count}
use Rattle.compiler.proofs.laws.compiled_nodes_are_few.Goals as goal

pub returns : goal.returns
returns c = λ b marks keep g compiled. compiled_count b marks keep g compiled
