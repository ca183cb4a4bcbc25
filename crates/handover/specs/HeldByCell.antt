-- What is held in each cell, and the build as its parts are given.
use Rattle.std.specs.Prelude.{◌≡◌, ℕ, ◌<◌, ◌≤◌, Bool, true, false, nat_lt, cond, map, List, Option, Some, None, IfSome, length, slice_index_or, if◌then◌else◌}
use Rattle.std.specs.List.{range_with_len, filter_map}
use Rattle.block_table.specs.declared.Block.{Block}
use Rattle.circuit.specs.declared.Pos.{Pos}
use Rattle.circuit.specs.Circuit.{State}
use Rattle.build.specs.declared.Pending.{Pending}
use Rattle.build.specs.Edits.{fresh, with_level, with_pending}
use Rattle.build.specs.Plan.{Plan, entry, block_at, has_level, may_wait, place_of, volume}
use Rattle.cell_queue.specs.declared.cells.Wait.{Wait}
use Rattle.graph.specs.Graph.{Nodes}
use Rattle.handover.specs.declared.held.Held.{Held}
use Rattle.handover.specs.GivenBack.{held_at, given_block, given_level, given_tick}

abbrev pub in_cell : List (Option Held) → ℕ → Option Held
in_cell held cell = slice_index_or held cell None

-- Each cell of a place that passes the test has this state now, and every other one what it had.
abbrev pub Notes : Plan → (Pos → Bool) → Held → List (Option Held) → List (Option Held) → Type 0
Notes b test state old new = (cell : ℕ) → cell < volume b → in_cell new cell ≡ (if test (place_of b cell) then Some state else in_cell old cell)

-- a pending tick has 1 to 15 ticks of time left
abbrev pub IsSoon : Option Wait → Type 0
IsSoon wait = IfSome wait (λ w. (1 ≤ w.left) × (w.left ≤ 15))

abbrev pub IsTimely : Option Held → Type 0
IsTimely held = IfSome held (λ h. IsSoon h.wait)

abbrev pub AreTimely : List (Option Held) → Type 0
AreTimely held = (cell : ℕ) → IsTimely (in_cell held cell)

-- Each cell of the box has what its place is given.
pub record AreHeld (b : Plan) (g : Nodes) (s : State ℕ) (held : List (Option Held)) : Type 0 where
  pub whole : length held ≡ volume b
  pub each : (cell : ℕ) → cell < volume b → in_cell held cell ≡ held_at g s (place_of b cell)

abbrev pub IsSmall : Option Held → Type 0
IsSmall held = IfSome held (λ h. h.value ≤ 15)

abbrev pub AreSmall : List (Option Held) → Type 0
AreSmall held = (cell : ℕ) → IsSmall (in_cell held cell)

-- ---- the blocks

abbrev pub block_by : Plan → List (Option Held) → ℕ → Block
block_by b held cell = given_block (in_cell held cell) (block_at b (place_of b cell))

abbrev pub blocks_by : Plan → List (Option Held) → List Block
blocks_by b held = map (block_by b held) (range_with_len 0 (volume b))

abbrev pub with_blocks_by : Plan → List (Option Held) → Plan
with_blocks_by b held = fresh b.width b.height b.depth b.data_version (blocks_by b held)

-- ---- the levels

abbrev pub level_by : Plan → List (Option Held) → ℕ → ℕ
level_by b held cell = given_level (in_cell held cell) (block_at b (place_of b cell)) (entry b b.levels 0 (place_of b cell))

abbrev pub level_to : Plan → List (Option Held) → ℕ → ℕ → ℕ
level_to b held end cell = cond (nat_lt cell end) (level_by b held cell) 0

-- once the levels of the first cells are stored
abbrev pub with_levels_to : Plan → List (Option Held) → ℕ → Plan
with_levels_to b held end = record (with_blocks_by b held) { levels = map (level_to b held end) (range_with_len 0 (volume b)) }

abbrev pub with_levels_by : Plan → List (Option Held) → Plan
with_levels_by b held = record (with_blocks_by b held) { levels = map (level_by b held) (range_with_len 0 (volume b)) }

-- the build with a level at a place, where its block has one
abbrev pub with_level_if : Bool → Plan → Pos → ℕ → Plan
with_level_if true b p level = with_level b p level
with_level_if false b p level = b

-- the build with the level of a cell, where its block has one
abbrev pub with_level_in : Plan → ℕ → Option Held → Plan → Plan
with_level_in b cell held after =
    with_level_if (has_level (block_at b (place_of b cell))) after (place_of b cell) (given_level held (block_at b (place_of b cell)) (entry b b.levels 0 (place_of b cell)))

-- ---- the ticks

abbrev pub tick_by : Plan → List (Option Held) → ℕ → Option Pending
tick_by b held cell = given_tick (place_of b cell) (in_cell held cell)

abbrev pub ticks_to : Plan → List (Option Held) → ℕ → List Pending
ticks_to b held end = filter_map (λ (tick : Option Pending). tick) (map (tick_by b held) (range_with_len 0 end))

-- once the ticks of the first cells are added
abbrev pub with_ticks_to : Plan → List (Option Held) → ℕ → Plan
with_ticks_to b held end = record (with_levels_by b held) { pending = ticks_to b held end }

abbrev pub with_ticks_by : Plan → List (Option Held) → Plan
with_ticks_by b held = with_ticks_to b held (volume b)

-- each tick may wait at its place
abbrev pub AreTicking : Plan → List (Option Held) → Type 0
AreTicking b held = (cell : ℕ) → cell < volume b → (tick : Pending) → tick_by b held cell ≡ Some tick → may_wait (with_levels_by b held) tick ≡ true

abbrev pub with_tick : Plan → Option Pending → Plan
with_tick b None = b
with_tick b (Some tick) = with_pending b tick
