-- One thing holds another cell, and what may read something else attends: so have all.
use Rattle.std.proofs.Common.{◌≡◌, ℕ, ◌<◌, List, None, set, length, slice_index, ◌∙◌, ap, ◌⊎◌}
use Rattle.std.proofs.lemmas.List.{length-set}
use Rattle.circuit.specs.declared.Pos.{Pos}
use Rattle.circuit.specs.declared.Cell.{Cell}
use Rattle.circuit.specs.Circuit.{State, attend, put}
use Rattle.circuit.specs.Bounds.{BoundedAt}
use Rattle.build.specs.Roles.{role_at}
use Rattle.wire_net.specs.Noted.{Waved, IsNoted}
use Rattle.cell_counts.specs.Held.{Holding}
use Rattle.replay_engine.specs.Near.{IsNearby}
use Rattle.replay_engine.specs.Things.{Numbered, IsNumbered, state_by}
use Rattle.replay_engine.specs.Running.{circuit_of, state_of, spot, AreIdle, AreStill, OthersStill, ArePowers, Attends, IsHolding, IsPlaying, IsNearOne, IsReached}
use Rattle.replay_engine.proofs.Held.{one-put, spot_number}
use Rattle.replay_engine.proofs.Within.{within_put}
use Rattle.replay_engine.proofs.Reached.{reached_or_still}
use Rattle.replay_engine.proofs.Attending.{all-attended, still-attended}
use Rattle.replay_engine.proofs.Steps.{attends-with, powers-attends}
use Rattle.replay_engine.proofs.Playing.{idle_after}

module _ (m : Numbered) (w : IsNumbered m) (old : Holding) (powers : List ℕ) (feeders : List (List ℕ)) (n : ℕ) (cell : Cell) (playing : IsPlaying m old powers feeders) (inside : n < length m.spots)
    (bounded : BoundedAt (role_at m.plan m.marks (spot m n)) cell) where
  abbrev pub putting : Holding
  putting = record { time = old.time; cells = set old.cells n cell }

  stored : state_of m putting ≡ put (circuit_of m) (state_of m old) (spot m n) cell
  stored = one-put m w old.time old.cells (spot m n) n cell playing.holding.whole (spot_number m w n inside)

  pub putting_holds : IsHolding m putting
  putting_holds = record {
    whole = length-set old.cells n cell ∙ playing.holding.whole;
    within = within_put m old.time old.cells (set old.cells n cell) (spot m n) cell playing.holding.within bounded stored;
    early = playing.holding.early;
  }

  module _ (new : List ℕ) (waves : Waved) (near far : List Cell) (still : OthersStill m old.cells powers (spot m n)) (right : ArePowers m (set old.cells n cell) new)
      (noted : (k : ℕ) → (slice_index new k ≡ slice_index powers k) ⊎ IsNoted waves k)
      (first : Attends m old.time new (set old.cells n cell) near (IsNearby (spot m n))) (second : Attends m old.time new near far (IsNearOne m (IsNoted waves))) where
    both : Attends m old.time new (set old.cells n cell) far (IsReached m (spot m n) waves)
    both = attends-with m old.time new (set old.cells n cell) near far (IsNearby (spot m n)) (IsNearOne m (IsNoted waves)) (IsReached m (spot m n) waves) (λ p h. h) first second

    pub settled_state : state_by m old.time far ≡ attend (circuit_of m) (put (circuit_of m) (state_of m old) (spot m n) cell)
    settled_state = all-attended m w old.time new (set old.cells n cell) far (IsReached m (spot m n) waves) putting_holds.within right both
        (reached_or_still m w old.cells n cell playing.holding.whole inside powers new waves noted still old.time)
        ∙ ap (λ (s : State Pos). attend (circuit_of m) s) stored

    pub settled_powers : ArePowers m far new
    settled_powers = powers-attends m old.time new (set old.cells n cell) far (IsReached m (spot m n) waves) both right

    pub settled_still : AreStill m far new
    settled_still = still-attended m old.time new (set old.cells n cell) far (IsReached m (spot m n) waves) both
        (reached_or_still m w old.cells n cell playing.holding.whole inside powers new waves noted still old.time)

    pub settled_idle : (role_at m.plan m.marks (spot m n) ≡ None → cell.due ≡ 0) → AreIdle m far
    settled_idle quiet = idle_after m old (record { time = old.time; cells = far }) (spot m n) cell playing.idle quiet settled_state
