use Rattle.graph_machine.specs.Places.{AreClickedBelow}
use Rattle.graph_machine.proofs.places.clicked_by.Given as goal

abbrev pub invariant-loop-key : goal.invariant-loop-key
invariant-loop-key l = AreClickedBelow l.key l.graph.nodes l.keys
