-- A running world by the levels of its things.
use Rattle.std.specs.Prelude.{◌≡◌, ◌≢◌, ℕ, ◌<◌, ◌≤◌, ◌^◌, ◌⊎◌, false, List, length, slice_index}
use Rattle.circuit.specs.declared.Pos.{Pos}
use Rattle.circuit.specs.declared.Cell.{Cell}
use Rattle.circuit.specs.declared.Readings.{Readings}
use Rattle.wire_net.specs.Net.{IsRight}
use Rattle.wire_net.specs.Listed.{list_at}
use Rattle.wire_net.specs.Noted.{Waved, IsNoted}
use Rattle.wire_net.specs.WaveSteps.{Has, Later}
use Rattle.power_rules.specs.Readings.{readings_at}
use Rattle.wire_shape.specs.Shape.{wire_at}
use Rattle.cell_queue.specs.Held.{Holding, NoneNow}
use Rattle.wiring.specs.Things.{Numbered, IsNumbered, held, nothing, spot}
use Rattle.wiring.specs.Wired.{Wired, IsWired, base_for, bases_of, level_cells}
use Rattle.world_engine.specs.Outlets.{outlets_of}
use Rattle.world_engine.specs.Screens.{Screened, AreFaced}
use Rattle.world_engine.specs.Running.{given_by, after_attending, AreIdle, IsHolding}

-- what each place reads where the things have these levels
abbrev pub reads_by : Numbered → List ℕ → Pos → Readings
reads_by m levels = readings_at m.plan (held m levels 0)

-- the levels are right for what the cells give
abbrev pub AreLevels : Numbered → List Cell → List ℕ → Type 0
AreLevels m cells levels = IsRight (level_cells m (given_by m cells)) levels

-- what a place holds after it has attended
abbrev pub after_reading : Numbered → ℕ → List ℕ → Pos → Cell → Cell
after_reading m time levels p cell = after_attending m time (reads_by m levels) p cell

-- The places that are done have attended, and of all others each has or has not.
pub record HaveAttended (m : Numbered) (time : ℕ) (levels : List ℕ) (old new : List Cell) (Done : Pos → Type 0) : Type 0 where
  pub each : (p : Pos) → (held m new nothing p ≡ held m old nothing p) ⊎ (held m new nothing p ≡ after_reading m time levels p (held m old nothing p))
  pub done : (p : Pos) → Done p → held m new nothing p ≡ after_reading m time levels p (held m old nothing p)

-- attending changes nothing at a place, at whatever time
abbrev pub IsQuiet : Numbered → List Cell → List ℕ → Pos → Type 0
IsQuiet m cells levels p = (time : ℕ) → after_reading m time levels p (held m cells nothing p) ≡ held m cells nothing p

pub record AreQuiet (m : Numbered) (cells : List Cell) (levels : List ℕ) : Type 0 where
  pub each : (p : Pos) → IsQuiet m cells levels p

-- at each place but one
pub record OthersQuiet (m : Numbered) (cells : List Cell) (levels : List ℕ) (there : Pos) : Type 0 where
  pub each : (p : Pos) → p ≢ there → IsQuiet m cells levels p

-- a reader that taps a thing stands there
abbrev pub IsReader : Numbered → Wired → ℕ → Pos → Type 0
IsReader m t tap p = (k : ℕ) × Has (list_at t.readers tap) k × (p ≡ spot m k)

-- a reader that taps one of these things
abbrev pub IsReaderOf : Numbered → Wired → (ℕ → Type 0) → Pos → Type 0
IsReaderOf m t Listed p = (tap : ℕ) × Listed tap × IsReader m t tap p

-- what may read something else than before, and the thing that changed
abbrev pub IsTold : Numbered → Wired → ℕ → Waved → Pos → Type 0
IsTold m t n waves p = (p ≡ spot m n) ⊎ IsReaderOf m t (IsNoted waves) p

-- Bases and levels are right for what the cells give.
pub record IsPlaying (m : Numbered) (t : Wired) (h : Holding) (bases levels : List ℕ) (feeders : List (List ℕ)) : Type 0 where
  pub wired : IsWired m t
  pub holding : IsHolding m h
  pub based : bases ≡ bases_of m (given_by m h.cells)
  pub solved : AreLevels m h.cells levels
  pub made : feeders ≡ t.feeders
  pub idle : AreIdle m h.cells

-- ---- bases anew

-- of each thing that is no wire the base is what it gives
abbrev pub AreSure : Numbered → (Pos → ℕ) → List ℕ → Type 0
AreSure m given bases = (k : ℕ) → k < length m.spots → wire_at m.plan (spot m k) ≡ false → slice_index bases k ≡ given (spot m k)

-- so of the first i things
abbrev pub AreSureBelow : Numbered → (Pos → ℕ) → ℕ → List ℕ → Type 0
AreSureBelow m given i bases = (k : ℕ) → k < i → wire_at m.plan (spot m k) ≡ false → slice_index bases k ≡ given (spot m k)

-- The base of each thing is right, or it stands among those that one thing drives, at i or later.
abbrev pub AreBasedFrom : Numbered → Wired → (Pos → ℕ) → ℕ → ℕ → List ℕ → Type 0
AreBasedFrom m t given n i bases = (k : ℕ) → k < length m.spots → (slice_index bases k ≡ base_for m given (spot m k)) ⊎ Later (list_at t.driven n) i k

-- one thing gives something else, and no base is new yet
pub record Unbased (m : Numbered) (t : Wired) (given : Pos → ℕ) (n : ℕ) (bases : List ℕ) : Type 0 where
  pub whole : length bases ≡ length m.spots
  pub other : (k : ℕ) → k < length m.spots → k ≢ n → wire_at m.plan (spot m k) ≡ false → slice_index bases k ≡ given (spot m k)
  pub each : AreBasedFrom m t given n 0 bases

-- the bases of the first i that it drives are new
pub record Rebased (m : Numbered) (t : Wired) (given : Pos → ℕ) (n i : ℕ) (bases : List ℕ) : Type 0 where
  pub whole : length bases ≡ length m.spots
  pub sure : AreSure m given bases
  pub each : AreBasedFrom m t given n i bases

-- ---- a world that runs

-- All have attended, nothing is due, and each output of the build shows what it must.
pub record IsRunning (m : Numbered) (t : Wired) (s : Screened) (h : Holding) (bases levels : List ℕ) (feeders : List (List ℕ)) : Type 0 where
  pub numbered : IsNumbered m
  pub count : s.count ≡ length m.spots
  pub shown : s.outlets ≡ outlets_of m
  pub faced : AreFaced levels h.cells s
  pub playing : IsPlaying m t h bases levels feeders
  pub quiet : AreQuiet m h.cells levels
  pub none : NoneNow h
  pub early : h.time ≤ 2 ^ 62
