-- Firing lists into which more keys that are due are put.
use Rattle.std.specs.Prelude.{◌≡◌, ℕ, List, [], ◌∷◌, filter, nat_le, if◌then◌else◌}
use Rattle.circuit.specs.declared.Act.{Act}
use Rattle.circuit.specs.declared.Step.{Step}
use Rattle.circuit.specs.Circuit.{Circuit, State, later}
use Rattle.circuit.specs.Firing.{due_at}
use Rattle.circuit.specs.Shows.{Run, Ended, Clicked, Ticked, Plays}

-- The key stands last among those of its priority, in a list that rises by priority.
abbrev pub put_last : {K : Type 0} → (K → ℕ) → K → List K → List K
put_last priority key [] = key ∷ []
put_last priority key (one ∷ keys) = if nat_le (priority one) (priority key) then one ∷ put_last priority key keys else key ∷ one ∷ keys

-- they go in one after another
abbrev pub put_all_last : {K : Type 0} → (K → ℕ) → List K → List K → List K
put_all_last priority [] keys = keys
put_all_last priority (one ∷ more) keys = put_all_last priority more (put_last priority one keys)

-- those of the keys that are due
abbrev pub due_among : {K : Type 0} → List K → Circuit K → State K → List K
due_among keys C s = filter (λ k. due_at (C.role k) (s.cells k) s.time) keys

-- a list into which those of `more` that are due were put, one after another, each last within its priority
abbrev pub with_due : {K : Type 0} → List K → Circuit K → State K → List K → List K
with_due more C s keys = put_all_last (λ k. (s.cells k).priority) (due_among more C s) keys

-- Along the run each firing list is the one of `order` for this tick into which those of `more` that are due were put.
abbrev pub PutsDue : {K : Type 0} (C : Circuit K) (more : List K) {s last : State K} {steps : List Step} {whole : List (List K)} {views : List (List ℕ)} → Run C s steps whole views last → List (List K) → Type 0
PutsDue C more Ended [] = Unit {0}
PutsDue C more Ended (fires ∷ order) = ⊥
PutsDue C more (Clicked hit run) order = PutsDue C more run order
PutsDue C more (Ticked tick run) [] = ⊥
PutsDue C more {s} (Ticked {fires = list} tick run) (fires ∷ order) = (list ≡ with_due more C (later s) fires) × PutsDue C more run order

-- All that `new` plays, `old` plays to a last state that is so related, with those of `more` that are due put into each firing list.
pub record RefinesWith {K : Type 0} (old new : Circuit K) (more : List K) (Related : State K → State K → Type 0) : Type 0 where
  pub plays : (acts : List Act) (order : List (List K)) (views : List (List ℕ)) (last : State K) → Plays new acts order views last →
      (whole : List (List K)) × (end : State K) × (plays : Plays old acts whole views end) × PutsDue old more plays.run order × Related last end
