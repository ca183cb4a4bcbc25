use Rattle.std.proofs.Common.{◌≡◌, ◌<◌, ℕ}
use Rattle.wire_net.specs.Listed.{list_at}
use Rattle.wire_net.specs.WaveSteps.{Has}
use Rattle.replay_engine.specs.Running.{Attends, IsHolding, IsNearOne}
use Rattle.replay_engine.proofs.attend.attend_near_noted.Given as goal

abbrev pub invariant-loop-power : goal.invariant-loop-power
invariant-loop-power l = record {
  attends : Attends l.things l.initial.cells.time l.powers l.initial.cells.cells l.cells.cells (IsNearOne l.things (λ n. (power : ℕ) × (power < l.power) × Has (list_at l.waves.levels power) n));
  holding : IsHolding l.things l.cells;
  time : l.cells.time ≡ l.initial.cells.time;
}
