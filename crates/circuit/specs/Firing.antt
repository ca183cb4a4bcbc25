-- A tick, one firing after another.
use Rattle.std.specs.Prelude.{ℕ, ◌≤◌, ◌==◌, ◌&&◌, not, Bool, false, Option, Some, None, List, [], ◌∷◌}
use Rattle.circuit.specs.declared.Component.{Component}
use Rattle.circuit.specs.declared.Cell.{Cell}
use Rattle.circuit.specs.Circuit.{Circuit, State, IsDue, fire}

-- whether a key with this component has a tick that is due at the time
abbrev pub due_at : Option Component → Cell → ℕ → Bool
due_at None cell time = false
due_at (Some component) cell time = not (cell.due == 0) && (cell.due == time)

-- The keys fire one by one: each is due when its turn comes, and nothing due then has a lesser priority. Nothing is due at the end.
pub data Fires {K : Type 0} (C : Circuit K) : State K → List K → Type 0 where
  NoneDue : {s : State K} → ((k : K) → IsDue C s k → ⊥) → Fires C s []
  FiresNext : {s : State K} {keys : List K} (key : K) → IsDue C s key → ((k : K) → IsDue C s k → (s.cells key).priority ≤ (s.cells k).priority) →
      Fires C (fire C s key) keys → Fires C s (key ∷ keys)
