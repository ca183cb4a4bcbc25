-- What comes of an order of firing lists.
use Rattle.std.specs.Prelude.{◌≡◌, ℕ, ◌+◌, List, [], ◌∷◌}
use Rattle.circuit.specs.declared.Act.{Act}
use Rattle.circuit.specs.declared.Act.TheVariants.{Click, Ticks}
use Rattle.circuit.specs.Circuit.{Circuit}
use Rattle.circuit.specs.Replay.{Outcome, Replays}

-- how many ticks there are
abbrev pub ticks_in : List Act → ℕ
ticks_in [] = 0
ticks_in (Click pos click ∷ acts) = ticks_in acts
ticks_in (Ticks n ∷ acts) = n + ticks_in acts

-- The order comes to one outcome, and to no other.
pub record HasOneOutcome {K : Type 0} (C : Circuit K) (acts : List Act) (order : List (List K)) : Type 0 where
  pub outcome : Outcome
  pub replays : Replays C acts order outcome
  pub only : (other : Outcome) → Replays C acts order other → other ≡ outcome
