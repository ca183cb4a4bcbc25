use Rattle.std.proofs.Common.{◌≡◌}
use Rattle.wiring.specs.Things.{spot}
use Rattle.world_engine.specs.Running.{IsHolding}
use Rattle.world_engine.specs.Levels.{HaveAttended}
use Rattle.world_engine.specs.Screens.{NoThing, Refaced}
use Rattle.world_engine.proofs.ToldSteps.{FirstOf}
use Rattle.world_engine.proofs.told.attend_readers.Given as goal

abbrev pub invariant-loop-reader : goal.invariant-loop-reader
invariant-loop-reader l = record {
  attended : HaveAttended l.things l.initial.cells.time l.levels l.initial.cells.cells l.cells.cells (FirstOf (λ x p. p ≡ spot l.things x) l.reader-items l.reader-index);
  holding : IsHolding l.things l.cells;
  time : l.cells.time ≡ l.initial.cells.time;
  refaced : Refaced l.levels l.initial.cells.cells l.cells.cells l.initial.screen l.screen NoThing;
}
