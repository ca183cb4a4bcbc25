use Rattle.circuit.proofs.Joining.{plays_joined, clicks_in-then, fires_in-then}
use Rattle.circuit.proofs.laws.runs_can_be_joined.Goals as goal

pub returns-clause-runs : goal.returns-clause-runs
returns-clause-runs g c = plays_joined

pub returns-clause-clicks : goal.returns-clause-clicks
returns-clause-clicks g c = clicks_in-then

pub returns-clause-firings : goal.returns-clause-firings
returns-clause-firings g c = fires_in-then
