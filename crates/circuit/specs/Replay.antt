-- A run whose order is given: what it shows, or where the order fails.
use Rattle.std.specs.Prelude.{◌≡◌, ℕ, List, [], ◌∷◌, ◌++◌, length}
use Rattle.circuit.specs.declared.Act.{Act}
use Rattle.circuit.specs.Circuit.{Circuit, State, IsFiringList, later, start}
use Rattle.circuit.specs.declared.Step.{Step}
use Rattle.circuit.specs.declared.Step.TheVariants.{Tick as OneTick}
use Rattle.circuit.specs.Shows.{Run, Plays, steps_of}

-- The next list of the order is missing, or is no firing list of this state.
abbrev pub IsWrong : {K : Type 0} → Circuit K → State K → List (List K) → Type 0
IsWrong C s [] = Unit {0}
IsWrong C s (fires ∷ order) = IsFiringList C s fires → ⊥

-- The order fails first at this tick, ticks counted from 0: what comes before it plays with the lists before, and the next list is wrong.
pub record FailsAt {K : Type 0} (C : Circuit K) (acts : List Act) (order : List (List K)) (tick : ℕ) : Type 0 where
  pub done : List Step
  pub left : List Step
  pub steps : steps_of acts ≡ done ++ (OneTick ∷ left)
  pub good : List (List K)
  pub rest : List (List K)
  pub lists : order ≡ good ++ rest
  pub count : length good ≡ tick
  pub views : List (List ℕ)
  pub last : State K
  pub run : Run C (start C) done good views last
  pub wrong : IsWrong C (later last) rest

-- what comes of an order
pub data Outcome : Type 0 where
  Views : (views : List (List ℕ)) → Outcome
  Failure : (tick : ℕ) → Outcome

-- With these firing lists, one for each tick, the circuit shows the views, or the order fails at the tick.
abbrev pub Replays : {K : Type 0} → Circuit K → List Act → List (List K) → Outcome → Type 0
Replays {K} C acts order (Views views) = (last : State K) × Plays C acts order views last
Replays C acts order (Failure tick) = FailsAt C acts order tick
