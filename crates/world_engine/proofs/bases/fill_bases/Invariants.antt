use Rattle.world_engine.specs.Running.{given_by}
use Rattle.world_engine.specs.Levels.{AreSure}
use Rattle.world_engine.proofs.BaseSteps.{AreBasedBelow}
use Rattle.world_engine.proofs.bases.fill_bases.Given as goal

abbrev pub invariant-loop-number : goal.invariant-loop-number
invariant-loop-number l = record {
  sure : AreSure l.things (given_by l.things l.cells.cells) l.bases;
  based : AreBasedBelow l.things (given_by l.things l.cells.cells) l.number l.bases;
}
