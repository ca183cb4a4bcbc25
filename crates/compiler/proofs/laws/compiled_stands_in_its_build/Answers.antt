use Rattle.compiler.proofs.BuildPlaces.{compiled_stands, compiled_near}
use Rattle.compiler.proofs.laws.compiled_stands_in_its_build.Goals as goal

pub returns-clause-nodes : goal.returns-clause-nodes
returns-clause-nodes c = λ b marks keep g compiled. compiled_stands b marks keep g compiled

pub returns-clause-near : goal.returns-clause-near
returns-clause-near c = λ b whole marks keep g compiled. compiled_near b whole marks keep g compiled
