-- The bounds of values and powers.
use Rattle.std.specs.Prelude.{ℕ, ◌≤◌, Option, Some, None}
use Rattle.circuit.specs.declared.Component.{Component}
use Rattle.circuit.specs.declared.Cell.{Cell}
use Rattle.circuit.specs.Component.{top}
use Rattle.circuit.specs.Circuit.{Circuit, State}

-- the value is at most the top of the component, if there is one
abbrev pub BoundedAt : Option Component → Cell → Type 0
BoundedAt None cell = Unit {0}
BoundedAt (Some component) cell = cell.value ≤ top component

-- no value of the state passes the top of its component
pub record Bounded {K : Type 0} (C : Circuit K) (s : State K) : Type 0 where
  pub each : (k : K) → BoundedAt (C.role k) (s.cells k)

-- A circuit that stays within the bounds: it begins there, and what is read is at most 15 where all that is given is.
pub record IsBounded {K : Type 0} (C : Circuit K) : Type 0 where
  pub begin : (k : K) → BoundedAt (C.role k) (C.begin k)
  pub base : (k : K) → C.base k ≤ 15
  pub back : (given : K → ℕ) → ((k : K) → given k ≤ 15) → (k : K) → (C.readings given k).back ≤ 15
