use Rattle.std.proofs.Common.{◌≡◌}
use Rattle.world_engine.specs.Running.{IsHolding}
use Rattle.world_engine.specs.Levels.{HaveAttended, IsReader}
use Rattle.world_engine.specs.Screens.{AmongFirst, Refaced}
use Rattle.world_engine.proofs.ToldSteps.{FirstOf}
use Rattle.world_engine.proofs.told.attend_readers_of.Given as goal

abbrev pub invariant-loop-tap : goal.invariant-loop-tap
invariant-loop-tap l = record {
  attended : HaveAttended l.things l.initial.cells.time l.levels l.initial.cells.cells l.cells.cells (FirstOf (IsReader l.things l.wiring) l.taps l.tap-index);
  holding : IsHolding l.things l.cells;
  time : l.cells.time ≡ l.initial.cells.time;
  refaced : Refaced l.levels l.initial.cells.cells l.cells.cells l.initial.screen l.screen (AmongFirst l.taps l.tap-index);
}
