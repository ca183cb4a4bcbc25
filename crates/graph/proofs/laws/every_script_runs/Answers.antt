use Rattle.circuit.proofs.Runs.{shows_exists}
use Rattle.graph.proofs.ListedSteps.{graph_is_listed}
use Rattle.graph.proofs.laws.every_script_runs.Goals as goal

pub returns : goal.returns
returns c = λ g acts taken. shows_exists (graph_is_listed g) acts taken
