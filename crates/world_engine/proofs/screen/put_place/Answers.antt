use Rattle.std.proofs.Common.{ap}
use Rattle.world_engine.specs.Screens.{number_in}
use Rattle.world_engine.proofs.screen.put_place.Goals as goal

pub bounds-places-number : goal.bounds-places-number
bounds-places-number c = c.requires.inside c.in-Level.number (ap number_in c.in-Level.is)

pub bounds-places-number-in-Value : goal.bounds-places-number-in-Value
bounds-places-number-in-Value c = c.requires.inside c.in-Value.number (ap number_in c.in-Value.is)
