use Rattle.std.proofs.Common.{◌≡◌}
use Rattle.world_engine.specs.Running.{IsHolding}
use Rattle.world_engine.specs.Levels.{HaveAttended}
use Rattle.world_engine.proofs.ToldSteps.{ThingsBelow}
use Rattle.world_engine.proofs.told.attend_all.Given as goal

abbrev pub invariant-loop-number : goal.invariant-loop-number
invariant-loop-number l = record {
  attended : HaveAttended l.things l.initial.cells.time l.levels l.initial.cells.cells l.cells.cells (ThingsBelow l.things l.number);
  holding : IsHolding l.things l.cells;
  time : l.cells.time ≡ l.initial.cells.time;
}
