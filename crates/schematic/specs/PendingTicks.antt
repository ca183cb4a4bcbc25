-- The pending ticks of a file: groups of five numbers, x, y, z, due and priority.
use Rattle.std.specs.Prelude.{ℕ, ℤ, pos, ◌+◌, Bool, false, not, ◌&&◌, int_le, if◌then◌else◌, List, [], ◌∷◌, ◌++◌, Option, Some, None}
use Rattle.std.specs.List.{filter_map}
use Rattle.build.specs.declared.Pending.{Pending}
use Rattle.build.specs.Plan.{Plan, block_at, is_ticking, is_pending, natural}

-- five numbers each, and last what is left of them
abbrev pub fives : List ℤ → List (List ℤ)
fives (x ∷ (y ∷ (z ∷ (due ∷ (priority ∷ rest))))) = (x ∷ (y ∷ (z ∷ (due ∷ (priority ∷ []))))) ∷ fives rest
fives [] = []
fives few = few ∷ []

-- five numbers are a tick where it is due in 1 to 15 ticks, with a priority of 0 to 3
abbrev pub tick_of : List ℤ → Option Pending
tick_of (x ∷ (y ∷ (z ∷ (due ∷ (priority ∷ []))))) =
    if (int_le (pos 1) due && int_le due (pos 15)) && (int_le (pos 0) priority && int_le priority (pos 3))
    then Some (record { pos = record { x = x; y = y; z = z }; due = natural due; priority = natural priority })
    else None
tick_of _ = None

-- the group is a tick of a block that waits for ticks, at a place where none of these does
abbrev pub comes_after : Plan → List Pending → Option Pending → Bool
comes_after b before (Some tick) = is_ticking (block_at b tick.pos) && not (is_pending before tick.pos)
comes_after b before None = false

abbrev pub with_tick : List Pending → Option Pending → List Pending
with_tick before (Some tick) = before ++ (tick ∷ [])
with_tick before None = before

-- the number of the first group that isn't right, where n groups with these ticks stand before
abbrev pub fault_after : Plan → ℕ → List Pending → List (List ℤ) → Option ℕ
fault_after b n before [] = None
fault_after b n before (group ∷ groups) =
    if comes_after b before (tick_of group) then fault_after b (n + 1) (with_tick before (tick_of group)) groups else Some n

unfoldable pub pending_fault : Plan → List ℤ → Option ℕ
pending_fault b numbers = fault_after b 0 [] (fives numbers)

unfoldable pub ticks_of : List ℤ → List Pending
ticks_of numbers = filter_map tick_of (fives numbers)

-- the build with these ticks behind its own
abbrev pub with_ticks : Plan → List Pending → Plan
with_ticks b ticks = record b { pending = b.pending ++ ticks }
