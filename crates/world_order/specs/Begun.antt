-- A tick that has begun: which keys have fired, and which may fire next.
use Rattle.std.specs.Prelude.{◌≤◌, ◌<◌, List, [], ◌∷◌}
use Rattle.circuit.specs.Circuit.{Circuit, State, IsDue, Among, fire}

-- The key is due, and nothing that is due has a lesser priority.
pub record IsNext {K : Type 0} (C : Circuit K) (now : State K) (key : K) : Type 0 where
  pub due : IsDue C now key
  pub least : (k : K) → IsDue C now k → (now.cells key).priority ≤ (now.cells k).priority

-- The keys may fire one after another from here on, each when it is next.
abbrev pub Begins : {K : Type 0} → Circuit K → State K → List K → Type 0
Begins C s [] = Unit {0}
Begins C s (key ∷ keys) = IsNext C s key × Begins C (fire C s key) keys

-- Told by the state in which the tick began: the key is due, it hasn't fired, and no key that is due and hasn't fired has a lesser priority.
pub record IsLawful {K : Type 0} (C : Circuit K) (s : State K) (fired : List K) (key : K) : Type 0 where
  pub due : IsDue C s key
  pub fresh : Among fired key → ⊥
  pub least : (k : K) → IsDue C s k → (Among fired k → ⊥) → (s.cells key).priority ≤ (s.cells k).priority

-- a key is due and hasn't fired
pub record IsLeft {K : Type 0} (C : Circuit K) (s : State K) (fired : List K) (key : K) : Type 0 where
  pub due : IsDue C s key
  pub fresh : Among fired key → ⊥

-- What is wrong with a key as the next one, where nothing is so that stands before it here.
pub data IsAmiss {K : Type 0} (C : Circuit K) (s : State K) (fired : List K) (key : K) : Type 0 where
  FiredBefore : Among fired key → IsAmiss C s fired key
  WaitsNot : (Among fired key → ⊥) → (IsDue C s key → ⊥) → IsAmiss C s fired key
  ComesLater : IsLeft C s fired key → (k : K) → IsLeft C s fired k → (s.cells k).priority < (s.cells key).priority → IsAmiss C s fired key
