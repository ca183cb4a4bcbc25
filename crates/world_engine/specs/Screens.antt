-- What the outputs show, and how it is kept right.
use Rattle.std.specs.Prelude.{◌≡◌, ℕ, ◌<◌, ◌⊎◌, List, length, get_or, slice_index, Option, Some, None}
use Rattle.circuit.specs.declared.Cell.{Cell}
use Rattle.cell_queue.specs.Held.{cell_of}
use Rattle.wire_net.specs.Listed.{list_at}
use Rattle.wire_net.specs.WaveSteps.{Has}
use Rattle.world_engine.specs.Outlets.{Outlet, Blank, Level, Value}

-- for so many things: how each output is shown, and what each shows
pub record Screened : Type 0 where
  pub count : ℕ
  pub outlets : List Outlet
  pub shown : List ℕ

-- the thing that an output shows
abbrev pub number_in : Outlet → Option ℕ
number_in Blank = None
number_in (Level number) = Some number
number_in (Value number) = Some number

-- what an output must show where the things have these levels and hold these cells
abbrev pub face : List ℕ → List Cell → Outlet → ℕ
face levels cells Blank = 0
face levels cells (Level number) = slice_index levels number
face levels cells (Value number) = (cell_of cells number).value

-- how the output of an index is shown
abbrev pub nth_outlet : List Outlet → ℕ → Outlet
nth_outlet outlets i = get_or outlets i Blank

-- Each thing that an output shows has the output's index.
pub record ArePlaced (outlets : List Outlet) (places : List ℕ) : Type 0 where
  pub each : (i n : ℕ) → number_in (nth_outlet outlets i) ≡ Some n → (n < length places) × (slice_index places n ≡ i)

-- and there is a value for each output
pub record IsScreen (outlets : List Outlet) (places shown : List ℕ) : Type 0 where
  pub placed : ArePlaced outlets places
  pub whole : length shown ≡ length outlets

abbrev pub screen_of : List Outlet → List ℕ → List ℕ → Screened
screen_of outlets places shown = record { count = length places; outlets = outlets; shown = shown }

-- The same of the first i outputs.
pub record ArePlacedBelow (outlets : List Outlet) (bound : ℕ) (places : List ℕ) : Type 0 where
  pub each : (i n : ℕ) → i < bound → number_in (nth_outlet outlets i) ≡ Some n → slice_index places n ≡ i

-- The thing of an output has its index; all others have theirs.
pub record IsPut (outlet : Outlet) (index : ℕ) (old new : List ℕ) : Type 0 where
  pub long : length new ≡ length old
  pub there : (n : ℕ) → number_in outlet ≡ Some n → slice_index new n ≡ index
  pub others : (k : ℕ) → ((number_in outlet ≡ Some k) → ⊥) → slice_index new k ≡ slice_index old k

-- Each output shows what it must.
pub record AreFaced (levels : List ℕ) (cells : List Cell) (s : Screened) : Type 0 where
  pub each : (i : ℕ) → slice_index s.shown i ≡ face levels cells (nth_outlet s.outlets i)

-- Each output shows what it must, or what it showed and must show the same; and each that shows
-- one of the things that are done shows what it must.
pub record Refaced (levels : List ℕ) (old new : List Cell) (s t : Screened) (Done : ℕ → Type 0) : Type 0 where
  pub count : t.count ≡ s.count
  pub outlets : t.outlets ≡ s.outlets
  pub each : (i : ℕ) → (slice_index t.shown i ≡ face levels new (nth_outlet s.outlets i))
      ⊎ ((slice_index t.shown i ≡ slice_index s.shown i) × (face levels new (nth_outlet s.outlets i) ≡ face levels old (nth_outlet s.outlets i)))
  pub done : (i n : ℕ) → number_in (nth_outlet s.outlets i) ≡ Some n → Done n → slice_index t.shown i ≡ face levels new (nth_outlet s.outlets i)

-- one of the first i of a list
abbrev pub AmongFirst : List ℕ → ℕ → ℕ → Type 0
AmongFirst list i n = (k : ℕ) × (k < i) × (k < length list) × (slice_index list k ≡ n)

-- in one of the first lists
abbrev pub InFirst : List (List ℕ) → ℕ → ℕ → Type 0
InFirst lists bound n = (power : ℕ) × (power < bound) × Has (list_at lists power) n

abbrev pub NoThing : ℕ → Type 0
NoThing n = ⊥
