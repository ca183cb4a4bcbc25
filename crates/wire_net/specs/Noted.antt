-- Which cells a wave lists: each one whose power it changes.
use Rattle.std.specs.Prelude.{◌≡◌, ℕ, ◌⊎◌, List, length, slice_index}
use Rattle.wire_net.specs.Listed.{list_at}
use Rattle.wire_net.specs.WaveSteps.{Has, AreBelow}

-- The feeders of each cell, and the cells that the last call listed: those that fell, and by their level those that rose.
pub record Waved : Type 0 where
  pub feeders : List (List ℕ)
  pub fallen : List ℕ
  pub levels : List (List ℕ)

-- a cell that some of the lists has
abbrev pub InSome : List (List ℕ) → ℕ → Type 0
InSome lists cell = (level : ℕ) × Has (list_at lists level) cell

abbrev pub IsNoted : Waved → ℕ → Type 0
IsNoted w cell = Has w.fallen cell ⊎ InSome w.levels cell

-- all that are listed are cells of a net of so many, and there is a list for each power up to 15
pub record AreCells (count : ℕ) (w : Waved) : Type 0 where
  pub fallen : AreBelow count w.fallen
  pub powers : length w.levels ≡ 16
  pub risen : (level : ℕ) → AreBelow count (list_at w.levels level)

-- Powers before and after a step: a cell that has another power is listed after it, and so is each that was listed before.
pub record Notes (before : List ℕ) (Listed : ℕ → Type 0) (after : List ℕ) (ListedAfter : ℕ → Type 0) : Type 0 where
  pub each : (cell : ℕ) → (slice_index after cell ≡ slice_index before cell) ⊎ ListedAfter cell
  pub kept : (cell : ℕ) → Listed cell → ListedAfter cell
