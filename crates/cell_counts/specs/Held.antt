-- What is held under each key, and how many pending ticks there are of each time and priority.
use Rattle.std.specs.Prelude.{◌≡◌, ◌≢◌, ℕ, ◌+◌, ◌*◌, ◌%◌, ◌<◌, ◌≤◌, ◌^◌, ◌==◌, ◌&&◌, not, Bool, List, length, count_by, slice_index, slice_index_or, if◌then◌else◌}
use Rattle.circuit.specs.declared.Cell.{Cell}

-- what a key holds where nothing stands
abbrev pub nothing : Cell
nothing = record { value = 0; due = 0; priority = 0 }

-- A time, and what is held under each key then. A key past the last one holds nothing.
pub record Holding : Type 0 where
  pub time : ℕ
  pub cells : List Cell

abbrev pub cell_of : List Cell → ℕ → Cell
cell_of cells key = slice_index_or cells key nothing

-- whether a tick is pending
abbrev pub waits : Cell → Bool
waits cell = not (cell.due == 0)

-- a pending tick is due within 15 ticks of time from now on
pub record IsSoon (time : ℕ) (cell : Cell) : Type 0 where
  pub later : cell.due ≢ 0 → time < cell.due
  pub soon : cell.due ≤ time + 15
  pub priority : cell.due ≢ 0 → cell.priority ≤ 3

-- a pending tick stays as it is, and a new one is due soon
pub record CanFollow (time : ℕ) (old new : Cell) : Type 0 where
  pub stays : old.due ≢ 0 → (new.due ≡ old.due) × (new.priority ≡ old.priority)
  pub soon : old.due ≡ 0 → IsSoon time new

-- the cell without its pending tick
abbrev pub rested : Cell → Cell
rested cell = record { value = cell.value; due = 0; priority = 0 }

-- a tick is pending for now
pub record IsNow (time : ℕ) (cell : Cell) : Type 0 where
  pub waits : cell.due ≢ 0
  pub now : cell.due ≡ time

-- nothing is due
abbrev pub NoneNow : Holding → Type 0
NoneNow h = (key : ℕ) → IsNow h.time (cell_of h.cells key) → ⊥

-- the key is due, and none that is due has a lesser priority number
pub record IsFirst (h : Holding) (key : ℕ) : Type 0 where
  pub inside : key < length h.cells
  pub due : IsNow h.time (cell_of h.cells key)
  pub least : (other : ℕ) → IsNow h.time (cell_of h.cells other) → (cell_of h.cells key).priority ≤ (cell_of h.cells other).priority

-- this is the least priority number of what is due
pub record IsLeast (h : Holding) (priority : ℕ) : Type 0 where
  pub key : ℕ
  pub inside : key < length h.cells
  pub due : IsNow h.time (cell_of h.cells key)
  pub is : (cell_of h.cells key).priority ≡ priority
  pub least : (other : ℕ) → IsNow h.time (cell_of h.cells other) → priority ≤ (cell_of h.cells other).priority

-- ---- how many pending ticks there are

-- where those of a time and a priority are counted: with those of times that are sixteen apart, of which one alone is soon
abbrev pub slot_of : ℕ → ℕ → ℕ
slot_of due priority = (due % 16) * 4 + priority

-- whether a tick is pending that is counted here
abbrev pub counts_at : ℕ → Cell → Bool
counts_at slot cell = waits cell && (slot_of cell.due cell.priority == slot)

abbrev pub one_at : ℕ → Cell → ℕ
one_at slot cell = if counts_at slot cell then 1 else 0

-- a pending tick is due now or within 15 ticks of time
pub record IsPending (time : ℕ) (cell : Cell) : Type 0 where
  pub later : cell.due ≢ 0 → time ≤ cell.due
  pub soon : cell.due ≤ time + 15
  pub priority : cell.due ≢ 0 → cell.priority ≤ 3

-- Each pending tick is counted, and is due now or soon.
pub record IsHeld (time : ℕ) (counts : List ℕ) (cells : List Cell) : Type 0 where
  pub long : length counts ≡ 64
  pub counted : (slot : ℕ) → slot < 64 → slice_index counts slot ≡ count_by (counts_at slot) cells
  pub pending : (key : ℕ) → IsPending time (cell_of cells key)
  pub few : length cells ≤ 2 ^ 32
