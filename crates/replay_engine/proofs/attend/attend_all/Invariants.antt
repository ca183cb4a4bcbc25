use Rattle.std.proofs.Common.{◌≡◌, ◌<◌, ℕ}
use Rattle.replay_engine.specs.Running.{Attends, IsHolding, spot}
use Rattle.replay_engine.proofs.attend.attend_all.Given as goal

abbrev pub invariant-loop-number : goal.invariant-loop-number
invariant-loop-number l = record {
  attends : Attends l.things l.initial.cells.time l.powers l.initial.cells.cells l.cells.cells (λ p. (n : ℕ) × (n < l.number) × (p ≡ spot l.things n));
  holding : IsHolding l.things l.cells;
  time : l.cells.time ≡ l.initial.cells.time;
}
