-- What a circuit shows over all acts of a script.
use Rattle.std.specs.Prelude.{◌≡◌, ℕ, zero, suc, ◌+◌, List, [], ◌∷◌, length}
use Rattle.circuit.specs.declared.Act.{Act}
use Rattle.circuit.specs.declared.Act.TheVariants.{Click as ClickAct, Ticks as TicksAct}
use Rattle.circuit.specs.declared.Click.{Click}
use Rattle.circuit.specs.declared.Pos.{Pos}
use Rattle.circuit.specs.declared.Step.{Step}
use Rattle.circuit.specs.declared.Step.TheVariants.{Click as ClickAt, Tick as OneTick}
use Rattle.circuit.specs.Circuit.{Circuit, State, Clicks, Ticks, start, view}

-- so many ticks, and then these steps
abbrev pub ticks : ℕ → List Step → List Step
ticks zero steps = steps
ticks (suc n) steps = OneTick ∷ ticks n steps

-- the steps that the acts ask for
abbrev pub steps_of : List Act → List Step
steps_of [] = []
steps_of (ClickAct pos click ∷ acts) = ClickAt pos click ∷ steps_of acts
steps_of (TicksAct n ∷ acts) = ticks n (steps_of acts)

-- From the state the steps may show these views, one after each step, with these firing lists, one for each tick, and end in the last state.
pub data Run {K : Type 0} (C : Circuit K) : State K → List Step → List (List K) → List (List ℕ) → State K → Type 0 where
  Ended : {s : State K} → Run C s [] [] [] s
  Clicked : {s next last : State K} {pos : Pos} {click : Click} {steps : List Step} {order : List (List K)} {views : List (List ℕ)} →
      Clicks C pos click s next → Run C next steps order views last → Run C s (ClickAt pos click ∷ steps) order (view C next ∷ views) last
  Ticked : {s next last : State K} {fires : List K} {steps : List Step} {order : List (List K)} {views : List (List ℕ)} →
      Ticks C fires s next → Run C next steps order views last → Run C s (OneTick ∷ steps) (fires ∷ order) (view C next ∷ views) last

-- From its start the circuit may show these views, the first at the start, with these firing lists, and end in the last state.
pub record Plays {K : Type 0} (C : Circuit K) (acts : List Act) (order : List (List K)) (views : List (List ℕ)) (last : State K) : Type 0 where
  pub rest : List (List ℕ)
  pub at_start : views ≡ view C (start C) ∷ rest
  pub run : Run C (start C) (steps_of acts) order rest last

-- how many clicks there are
abbrev pub clicks_in : List Act → ℕ
clicks_in [] = 0
clicks_in (ClickAct pos click ∷ acts) = 1 + clicks_in acts
clicks_in (TicksAct n ∷ acts) = clicks_in acts

-- how many firings there are
abbrev pub fires_in : {K : Type 0} → List (List K) → ℕ
fires_in [] = 0
fires_in (fires ∷ order) = length fires + fires_in order

-- The circuit may show these views, in so many events: its clicks and its firings.
pub record Shows {K : Type 0} (C : Circuit K) (acts : List Act) (views : List (List ℕ)) (events : ℕ) : Type 0 where
  pub order : List (List K)
  pub last : State K
  pub plays : Plays C acts order views last
  pub count : events ≡ clicks_in acts + fires_in order

-- All that `new` shows, `old` shows, though maybe in another number of events.
pub record Refines {K J : Type 0} (old : Circuit K) (new : Circuit J) : Type 0 where
  pub shows : (acts : List Act) (views : List (List ℕ)) (events : ℕ) → Shows new acts views events → (n : ℕ) × Shows old acts views n

-- All that `new` plays, `old` plays, with firing lists that are so related, to a last state that is so related.
pub record RefinesBy {K J : Type 0} (old : Circuit K) (new : Circuit J) (order_of : List (List J) → List (List K)) (Related : State J → State K → Type 0) : Type 0 where
  pub plays : (acts : List Act) (order : List (List J)) (views : List (List ℕ)) (last : State J) → Plays new acts order views last →
      (end : State K) × Plays old acts (order_of order) views end × Related last end

-- All that `new` plays, `old` plays, with the same firing lists and to the same last state: so, since each part of a script is one, through the same states.
pub record SameRuns {K : Type 0} (old new : Circuit K) : Type 0 where
  pub plays : (acts : List Act) (order : List (List K)) (views : List (List ℕ)) (last : State K) → Plays new acts order views last → Plays old acts order views last
