-- A run cut in two: a circuit that begins with what another holds in a state of a run, its time counted from 0 again.
use Rattle.std.specs.Prelude.{◌≡◌, ℕ, ◌+◌, ◌-◌, ◌==◌, Some, if◌then◌else◌}
use Rattle.circuit.specs.declared.Component.{Component}
use Rattle.circuit.specs.declared.Cell.{Cell}
use Rattle.circuit.specs.Circuit.{Circuit, State}

-- the cell with its due time less the time; where no tick is pending, none is
abbrev pub remaining : ℕ → Cell → Cell
remaining time cell = record { value = cell.value; due = cell.due - time; priority = cell.priority }

-- D is C but for what it holds before the start: there each component holds what it holds in the state, with the due time less the time.
pub record GoesOn {K : Type 0} (C : Circuit K) (s : State K) (D : Circuit K) : Type 0 where
  pub same : (a b : K) → D.same a b ≡ C.same a b
  pub role : (k : K) → D.role k ≡ C.role k
  pub first : (k : K) → D.first k ≡ C.first k
  pub base : (k : K) → D.base k ≡ C.base k
  pub place : (k : K) → D.place k ≡ C.place k
  pub readings : (given : K → ℕ) (k : K) → D.readings given k ≡ C.readings given k
  pub shown : D.shown ≡ C.shown
  pub begin : (k : K) (component : Component) → C.role k ≡ Some component → D.begin k ≡ remaining s.time (s.cells k)

-- so much later, but 0, no tick, stays 0
abbrev pub due_later : ℕ → ℕ → ℕ
due_later time due = if due == 0 then 0 else due + time

-- the cell with its pending tick so much later
abbrev pub moved_on : ℕ → Cell → Cell
moved_on time cell = record { value = cell.value; due = due_later time cell.due; priority = cell.priority }

-- The new state is the old one so much later: the time and each component's pending tick are moved on, and all else is the same.
pub record IsMovedOn {K : Type 0} (C : Circuit K) (after : ℕ) (old new : State K) : Type 0 where
  pub time : new.time ≡ old.time + after
  pub cells : (k : K) (component : Component) → C.role k ≡ Some component → new.cells k ≡ moved_on after (old.cells k)
