use Rattle.wiring.proofs.LevelLaws.{levels_world}
use Rattle.wiring.proofs.laws.levels_are_of_the_world.Goals as goal

pub returns : goal.returns
returns c = levels_world
