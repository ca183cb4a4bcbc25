use Rattle.world_engine.specs.Running.{given_by}
use Rattle.world_engine.specs.Levels.{AreSureBelow}
use Rattle.world_engine.proofs.bases.fill_given.Given as goal

abbrev pub invariant-loop-number : goal.invariant-loop-number
invariant-loop-number l = AreSureBelow l.things (given_by l.things l.cells.cells) l.number l.bases
