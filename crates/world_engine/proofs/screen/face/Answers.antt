use Rattle.std.proofs.Common.{ap}
use Rattle.world_engine.specs.Screens.{number_in}
use Rattle.world_engine.proofs.screen.face.Goals as goal

pub bounds-levels-number : goal.bounds-levels-number
bounds-levels-number c = c.requires.levels c.in-Level.number (ap number_in c.in-Level.is)

pub value-requires : goal.value-requires
value-requires c = c.requires.cells c.in-Value.number (ap number_in c.in-Value.is)
