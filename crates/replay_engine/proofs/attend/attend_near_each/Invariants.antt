use Rattle.std.proofs.Common.{◌≡◌, ◌<◌, ℕ, slice_index}
use Rattle.replay_engine.specs.Near.{IsNearby}
use Rattle.replay_engine.specs.Running.{Attends, IsHolding, spot}
use Rattle.replay_engine.proofs.attend.attend_near_each.Given as goal

abbrev pub invariant-loop-number : goal.invariant-loop-number
invariant-loop-number l = record {
  attends : Attends l.things l.initial.cells.time l.powers l.initial.cells.cells l.cells.cells (λ p. (k : ℕ) × (k < l.number-index) × IsNearby (spot l.things (slice_index l.numbers k)) p);
  holding : IsHolding l.things l.cells;
  time : l.cells.time ≡ l.initial.cells.time;
}
