use Rattle.graph_file.proofs.SpotSteps.{PlacesSoFar}
use Rattle.graph_file.proofs.ranges.places_of.Given as goal

abbrev pub invariant-loop-spot : goal.invariant-loop-spot
invariant-loop-spot l = PlacesSoFar l.spots l.spot-index l.places.items
