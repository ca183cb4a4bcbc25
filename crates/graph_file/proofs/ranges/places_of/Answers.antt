use Rattle.std.proofs.Common.{add-one}
use Rattle.graph_file.specs.declared.entries.Spot.{Spot}
use Rattle.graph_file.proofs.SpotSteps.{places_more, places_none}
use Rattle.graph_file.proofs.ranges.places_of.Goals as goal

abbrev zero_spot : Spot
zero_spot = record { x = 0; y = 0; z = 0 }

pub returns-in_default : goal.returns-in_default
returns-in_default c = places_none c.args.spots.now c.loop-spot.spot-index zero_spot c.loop-spot.places.items c.loop-spot-test.true c.in_default.ensures c.loop-spot.invariant

pub loop-spot-preserved : goal.loop-spot-preserved
loop-spot-preserved c = places_more c.args.spots.now c.loop-spot.spot-index _ zero_spot c.loop-spot.places.items c.push.new.self.items c.in-Some.pos (add-one c.loop-spot.spot-index) c.loop-spot-test.true c.in-Some.ensures c.in_ok-push.ensures.items c.loop-spot.invariant
