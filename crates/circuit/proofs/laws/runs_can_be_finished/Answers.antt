use Rattle.circuit.proofs.Runs.{run_exists}
use Rattle.circuit.proofs.laws.runs_can_be_finished.Goals as goal

pub returns : goal.returns
returns g c = λ C keys listed steps taken s. run_exists listed steps taken s
