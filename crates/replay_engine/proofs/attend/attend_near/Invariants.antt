use Rattle.std.proofs.Common.{◌≡◌, ◌<◌, ℕ, get_or}
use Rattle.replay_engine.specs.Near.{origin}
use Rattle.replay_engine.specs.Running.{Attends, IsHolding}
use Rattle.replay_engine.proofs.attend.attend_near.Given as goal

abbrev pub invariant-loop-pos : goal.invariant-loop-pos
invariant-loop-pos l = record {
  attends : Attends l.things l.initial.cells.time l.powers l.initial.cells.cells l.cells.cells (λ p. (k : ℕ) × (k < l.pos-index) × (p ≡ get_or l.pos-items k origin));
  holding : IsHolding l.things l.cells;
  time : l.cells.time ≡ l.initial.cells.time;
}
