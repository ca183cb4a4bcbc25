use Rattle.std.proofs.Common.{◌≡◌, ◌⊎◌}
use Rattle.wire_net.specs.WaveSteps.{Has}
use Rattle.wiring.specs.Things.{spot}
use Rattle.world_engine.specs.Running.{IsHolding}
use Rattle.world_engine.specs.Levels.{HaveAttended, IsReaderOf}
use Rattle.world_engine.specs.Screens.{InFirst, Refaced}
use Rattle.world_engine.proofs.ToldSteps.{RisenBelow}
use Rattle.world_engine.proofs.told.attend_told.Given as goal

abbrev pub invariant-loop-power : goal.invariant-loop-power
invariant-loop-power l = record {
  attended : HaveAttended l.things l.fn.cells.time l.levels l.fn.cells.cells l.cells.cells (λ p. ((p ≡ spot l.things l.number) ⊎ IsReaderOf l.things l.wiring (Has l.waves.fallen) p) ⊎ RisenBelow l.things l.fn.cells.time l.levels l.wiring l.waves.levels l.power p);
  holding : IsHolding l.things l.cells;
  time : l.cells.time ≡ l.fn.cells.time;
  refaced : Refaced l.levels l.fn.cells.cells l.cells.cells l.fn.screen l.screen (λ n. ((n ≡ l.number) ⊎ Has l.waves.fallen n) ⊎ InFirst l.waves.levels l.power n);
}
