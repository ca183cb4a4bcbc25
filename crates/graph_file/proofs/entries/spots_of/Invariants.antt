use Rattle.graph_file.proofs.SpotSteps.{SpotsSoFar}
use Rattle.graph_file.proofs.entries.spots_of.Given as goal

abbrev pub invariant-loop-value : goal.invariant-loop-value
invariant-loop-value l = SpotsSoFar l.list l.value-index l.spots.items
