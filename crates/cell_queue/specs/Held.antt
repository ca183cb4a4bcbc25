-- What is held under each key, and how the pending ticks stand in a queue.
use Rattle.std.specs.Prelude.{◌≡◌, ◌≢◌, ℕ, ◌+◌, ◌-◌, ◌<◌, ◌≤◌, ◌^◌, ◌==◌, not, Bool, List, [], ◌∷◌, length, filter, count_by, slice_index_or, slice_set, if◌then◌else◌, Option, Some, None}
use Rattle.circuit.specs.declared.Cell.{Cell}
use Rattle.tick_queue.specs.declared.Tick.{Tick}
use Rattle.tick_queue.specs.Ticks.{put_in, first_at, without_first_at}
use Rattle.cell_queue.specs.declared.cells.Wait.{Wait}

-- what a key holds where nothing stands
abbrev pub nothing : Cell
nothing = record { value = 0; due = 0; priority = 0 }

-- A time, and what is held under each key then. A key past the last one holds nothing.
pub record Holding : Type 0 where
  pub time : ℕ
  pub cells : List Cell

abbrev pub cell_of : List Cell → ℕ → Cell
cell_of cells key = slice_index_or cells key nothing

-- whether a tick is pending
abbrev pub waits : Cell → Bool
waits cell = not (cell.due == 0)

abbrev pub tick_of : ℕ → Cell → Tick ℕ
tick_of key cell = record { due = cell.due; priority = cell.priority; key = key }

-- the pending tick of a key, if there is one
abbrev pub ticks_of : ℕ → Cell → List (Tick ℕ)
ticks_of key cell = if waits cell then tick_of key cell ∷ [] else []

-- the ticks of a key among those of a queue
abbrev pub ticks_for : ℕ → List (Tick ℕ) → List (Tick ℕ)
ticks_for key ticks = filter (λ (tick : Tick ℕ). tick.key == key) ticks

-- the ticks with that of the key, if it has one
abbrev pub with_tick : ℕ → Cell → List (Tick ℕ) → List (Tick ℕ)
with_tick key cell ticks = if waits cell then put_in (tick_of key cell) ticks else ticks

-- Each key has just its pending tick in the queue, and there is room for one of each other key.
pub record IsHeld (ticks : List (Tick ℕ)) (spare : ℕ) (cells : List Cell) : Type 0 where
  pub queued : (key : ℕ) → ticks_for key ticks ≡ ticks_of key (cell_of cells key)
  pub room : length cells ≤ spare + count_by waits cells
  pub few : length cells ≤ 2 ^ 32

-- a pending tick is due within 15 ticks of time from now on
pub record IsSoon (time : ℕ) (cell : Cell) : Type 0 where
  pub later : cell.due ≢ 0 → time < cell.due
  pub soon : cell.due ≤ time + 15
  pub priority : cell.due ≢ 0 → cell.priority ≤ 3

-- a pending tick stays as it is, and a new one is due soon
pub record CanFollow (time : ℕ) (old new : Cell) : Type 0 where
  pub stays : old.due ≢ 0 → (new.due ≡ old.due) × (new.priority ≡ old.priority)
  pub soon : old.due ≡ 0 → IsSoon time new

-- the cell without its pending tick
abbrev pub rested : Cell → Cell
rested cell = record { value = cell.value; due = 0; priority = 0 }

-- a tick is pending for now
pub record IsNow (time : ℕ) (cell : Cell) : Type 0 where
  pub waits : cell.due ≢ 0
  pub now : cell.due ≡ time

-- nothing is due
abbrev pub NoneNow : Holding → Type 0
NoneNow h = (key : ℕ) → IsNow h.time (cell_of h.cells key) → ⊥

-- the key is due, and none that is due has a lesser priority number
pub record IsFirst (h : Holding) (key : ℕ) : Type 0 where
  pub inside : key < length h.cells
  pub due : IsNow h.time (cell_of h.cells key)
  pub least : (other : ℕ) → IsNow h.time (cell_of h.cells other) → (cell_of h.cells key).priority ≤ (cell_of h.cells other).priority

-- The first of what is due has no pending tick any more. Where there is none, nothing is due.
abbrev pub TakesFirst : Holding → Option ℕ → Holding → Type 0
TakesFirst old None new = (new ≡ old) × NoneNow old
TakesFirst old (Some key) new = IsFirst old key × (new ≡ record { time = old.time; cells = slice_set old.cells key (rested (cell_of old.cells key)) })

-- the pending tick of a cell, by the ticks of time that are left
abbrev pub wait_of : ℕ → Cell → Option Wait
wait_of time cell = if waits cell then Some (record { left = cell.due - time; priority = cell.priority }) else None

-- The first tick of the least priority that is due at the time is taken out. Where there is none, no tick is due.
pub record TakesOne (time : ℕ) (ticks : List (Tick ℕ)) (spare key : ℕ) (left : List (Tick ℕ)) (room : ℕ) : Type 0 where
  pub priority : ℕ
  pub small : priority ≤ 3
  pub first : first_at time priority ticks ≡ Some key
  pub earlier : (other : ℕ) → other < priority → first_at time other ticks ≡ None
  pub rest : left ≡ without_first_at time priority ticks
  pub grows : room ≡ spare + 1

pub record TakesNone (time : ℕ) (ticks : List (Tick ℕ)) (spare : ℕ) (left : List (Tick ℕ)) (room : ℕ) : Type 0 where
  pub none : (priority : ℕ) → priority ≤ 3 → first_at time priority ticks ≡ None
  pub rest : left ≡ ticks
  pub same : room ≡ spare

abbrev pub Takes : ℕ → List (Tick ℕ) → ℕ → Option ℕ → List (Tick ℕ) → ℕ → Type 0
Takes time ticks spare (Some key) left room = TakesOne time ticks spare key left room
Takes time ticks spare None left room = TakesNone time ticks spare left room
