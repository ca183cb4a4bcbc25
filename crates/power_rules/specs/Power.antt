-- The power that blocks give and read. A level stands at each place: the output of a component, the power of a wire, 0 elsewhere.
use Rattle.std.specs.Prelude.{ℕ, Bool, false, not, nat_lt, if◌then◌else◌, map, Option, Some, None}
use Rattle.wire_net.specs.Net.{greatest}
use Rattle.block_table.specs.declared.Side.{Side}
use Rattle.block_table.specs.declared.Side.TheVariants.{Down, Up}
use Rattle.block_table.specs.declared.Face.{Face}
use Rattle.block_table.specs.declared.Face.TheVariants.{Floor, Wall, Ceiling}
use Rattle.block_table.specs.declared.Block.{Block}
use Rattle.block_table.specs.declared.Block.TheVariants.{Air, Inert, Slab, Wire, Torch, WallTorch, Repeater, Comparator, Lever, Button, Plate, RedstoneBlock, Lamp, Trapdoor, Container, Composter, Cauldron, Cake, Weighted, Note}
use Rattle.block_table.specs.Facts.{opposite}
use Rattle.circuit.specs.declared.Pos.{Pos}
use Rattle.build.specs.Place.{beside, sides, same_side}
use Rattle.build.specs.Plan.{Plan, block_at, solid_at}
use Rattle.build.specs.Roles.{direct_at, far_at}
use Rattle.wire_shape.specs.Shape.{across, wire_at, points}

-- 15 for what is on
abbrev pub full : ℕ → ℕ
full level = if nat_lt 0 level then 15 else 0

abbrev pub only : Bool → ℕ → ℕ
only test power = if test then power else 0

-- the side on which a lever or a button hangs
abbrev pub hung : Face → Side → Side
hung Floor facing = Down
hung Ceiling facing = Up
hung Wall facing = opposite facing

-- Weak power of the block at p towards its neighbour on a side. A torch gives none to its own block, and a diode gives some to its output side alone.
-- A wire gives its power to the block below and to the horizontal sides that it points to.
abbrev pub weak_of : Plan → Pos → Block → ℕ → Side → ℕ
weak_of b p (Torch lit) level side = only (not (same_side side Down)) (full level)
weak_of b p (WallTorch facing lit) level side = only (not (same_side side (opposite facing))) (full level)
weak_of b p RedstoneBlock level side = 15
weak_of b p (Lever face facing powered) level side = full level
weak_of b p (Button name face facing powered) level side = full level
weak_of b p (Plate name powered) level side = full level
weak_of b p (Weighted name power) level side = level
weak_of b p (Repeater delay facing powered) level side = only (same_side side (opposite facing)) (full level)
weak_of b p (Comparator facing subtract) level side = only (same_side side (opposite facing)) level
weak_of b p (Wire north east south west power) level Down = level
weak_of b p (Wire north east south west power) level Up = 0
weak_of b p (Wire north east south west power) level side = only (points b p side) level
weak_of b p Air level side = 0
weak_of b p (Inert name) level side = 0
weak_of b p (Slab name half) level side = 0
weak_of b p (Lamp lit) level side = 0
weak_of b p (Trapdoor facing top powered) level side = 0
weak_of b p (Container name) level side = 0
weak_of b p (Composter levels) level side = 0
weak_of b p (Cauldron water levels) level side = 0
weak_of b p (Cake bites) level side = 0
weak_of b p (Note powered) level side = 0

unfoldable pub weak : Plan → (Pos → ℕ) → Pos → Side → ℕ
weak b level p side = weak_of b p (block_at b p) (level p) side

-- Strong power of the block at p towards its neighbour on a side: a torch gives it upwards, a lever and a button to the block that they hang on,
-- a plate downwards, a diode and a wire wherever they give weak power.
abbrev pub strong_of : Plan → Pos → Block → ℕ → Side → ℕ
strong_of b p (Torch lit) level side = only (same_side side Up) (full level)
strong_of b p (WallTorch facing lit) level side = only (same_side side Up) (full level)
strong_of b p (Lever face facing powered) level side = only (same_side side (hung face facing)) (full level)
strong_of b p (Button name face facing powered) level side = only (same_side side (hung face facing)) (full level)
strong_of b p (Plate name powered) level side = only (same_side side Down) (full level)
strong_of b p (Weighted name power) level side = only (same_side side Down) level
strong_of b p (Repeater delay facing powered) level side = weak_of b p (Repeater delay facing powered) level side
strong_of b p (Comparator facing subtract) level side = weak_of b p (Comparator facing subtract) level side
strong_of b p (Wire north east south west power) level side = weak_of b p (Wire north east south west power) level side
strong_of b p Air level side = 0
strong_of b p (Inert name) level side = 0
strong_of b p (Slab name half) level side = 0
strong_of b p RedstoneBlock level side = 0
strong_of b p (Lamp lit) level side = 0
strong_of b p (Trapdoor facing top powered) level side = 0
strong_of b p (Container name) level side = 0
strong_of b p (Composter levels) level side = 0
strong_of b p (Cauldron water levels) level side = 0
strong_of b p (Cake bites) level side = 0
strong_of b p (Note powered) level side = 0

unfoldable pub strong : Plan → (Pos → ℕ) → Pos → Side → ℕ
strong b level p side = strong_of b p (block_at b p) (level p) side

-- the greatest strong power that its six neighbours give to the block at p
unfoldable pub charge : Plan → (Pos → ℕ) → Pos → ℕ
charge b level p = greatest (map (λ side. strong b level (beside side p) (opposite side)) sides)

-- Power read from the neighbour on a side: the strong power that a solid neighbour is given, else the neighbour's own weak power.
unfoldable pub read : Plan → (Pos → ℕ) → Pos → Side → ℕ
read b level p side =
    if solid_at b (beside side p)
    then charge b level (beside side p)
    else weak b level (beside side p) (opposite side)

-- the levels with all wires left out
unfoldable pub undusted : Plan → (Pos → ℕ) → Pos → ℕ
undusted b level p = only (not (wire_at b p)) (level p)

-- power read without dust: as if no wire gave any
abbrev pub read_no_dust : Plan → (Pos → ℕ) → Pos → Side → ℕ
read_no_dust b level p side = read b (undusted b level) p side

-- the greatest power read from the six neighbours
unfoldable pub read_around : Plan → (Pos → ℕ) → Pos → ℕ
read_around b level p = greatest (map (read b level p) sides)

-- what a diode reads from its input block: of a wire its whole power
unfoldable pub input : Plan → (Pos → ℕ) → Pos → Side → ℕ
input b level p facing = if wire_at b (beside facing p) then level (beside facing p) else read b level p facing

-- a strength beyond a solid input block counts where the power is below 15
abbrev pub or_far : Option ℕ → ℕ → ℕ
or_far None power = power
or_far (Some strength) power = if nat_lt power 15 then strength else power

-- a strength of the input block itself always counts
abbrev pub or_direct : Option ℕ → ℕ → ℕ
or_direct None power = power
or_direct (Some strength) power = strength

-- the back power of a comparator
unfoldable pub measured : Plan → (Pos → ℕ) → Pos → Side → ℕ
measured b level p facing = or_direct (direct_at b p facing) (or_far (far_at b p facing) (input b level p facing))

-- the back power of a diode
abbrev pub back_of : Plan → (Pos → ℕ) → Pos → Block → ℕ
back_of b level p (Repeater delay facing powered) = input b level p facing
back_of b level p (Comparator facing subtract) = measured b level p facing
back_of b level p Air = 0
back_of b level p (Inert name) = 0
back_of b level p (Slab name half) = 0
back_of b level p (Wire north east south west power) = 0
back_of b level p (Torch lit) = 0
back_of b level p (WallTorch facing lit) = 0
back_of b level p (Lever face facing powered) = 0
back_of b level p (Button name face facing powered) = 0
back_of b level p (Plate name powered) = 0
back_of b level p RedstoneBlock = 0
back_of b level p (Lamp lit) = 0
back_of b level p (Trapdoor facing top powered) = 0
back_of b level p (Container name) = 0
back_of b level p (Composter levels) = 0
back_of b level p (Cauldron water levels) = 0
back_of b level p (Cake bites) = 0
back_of b level p (Weighted name power) = 0
back_of b level p (Note powered) = 0

unfoldable pub back_at : Plan → (Pos → ℕ) → Pos → ℕ
back_at b level p = back_of b level p (block_at b p)

-- the output of a diode that stands on this side of its reader and is turned to it
abbrev pub turned : Block → ℕ → Side → ℕ
turned (Repeater delay facing powered) level side = only (same_side facing side) (full level)
turned (Comparator facing subtract) level side = only (same_side facing side) level
turned Air level side = 0
turned (Inert name) level side = 0
turned (Slab name half) level side = 0
turned (Wire north east south west power) level side = 0
turned (Torch lit) level side = 0
turned (WallTorch facing lit) level side = 0
turned (Lever face facing powered) level side = 0
turned (Button name face facing powered) level side = 0
turned (Plate name powered) level side = 0
turned RedstoneBlock level side = 0
turned (Lamp lit) level side = 0
turned (Trapdoor facing top powered) level side = 0
turned (Container name) level side = 0
turned (Composter levels) level side = 0
turned (Cauldron water levels) level side = 0
turned (Cake bites) level side = 0
turned (Weighted name power) level side = 0
turned (Note powered) level side = 0

abbrev pub turned_at : Plan → (Pos → ℕ) → Pos → Side → ℕ
turned_at b level p side = turned (block_at b (beside side p)) (level (beside side p)) side

-- what locks a repeater: the greatest output of the diodes at its two sides that are turned to it
unfoldable pub lock_power : Plan → (Pos → ℕ) → Pos → Side → ℕ
lock_power b level p facing = greatest (map (turned_at b level p) (across facing))

abbrev pub is_locked_of : Plan → (Pos → ℕ) → Pos → Block → Bool
is_locked_of b level p (Repeater delay facing powered) = nat_lt 0 (lock_power b level p facing)
is_locked_of b level p Air = false
is_locked_of b level p (Inert name) = false
is_locked_of b level p (Slab name half) = false
is_locked_of b level p (Wire north east south west power) = false
is_locked_of b level p (Torch lit) = false
is_locked_of b level p (WallTorch facing lit) = false
is_locked_of b level p (Comparator facing subtract) = false
is_locked_of b level p (Lever face facing powered) = false
is_locked_of b level p (Button name face facing powered) = false
is_locked_of b level p (Plate name powered) = false
is_locked_of b level p RedstoneBlock = false
is_locked_of b level p (Lamp lit) = false
is_locked_of b level p (Trapdoor facing top powered) = false
is_locked_of b level p (Container name) = false
is_locked_of b level p (Composter levels) = false
is_locked_of b level p (Cauldron water levels) = false
is_locked_of b level p (Cake bites) = false
is_locked_of b level p (Weighted name power) = false
is_locked_of b level p (Note powered) = false

-- whether the block at a place is a repeater that is locked
unfoldable pub locked_at : Plan → (Pos → ℕ) → Pos → Bool
locked_at b level p = is_locked_of b level p (block_at b p)

-- what a comparator reads of a block beside it: of a wire its power, of a redstone block 15, of a diode that is turned to it the output
abbrev pub lateral : Block → ℕ → Side → ℕ
lateral (Wire north east south west power) level side = level
lateral RedstoneBlock level side = 15
lateral Air level side = turned Air level side
lateral (Inert name) level side = turned (Inert name) level side
lateral (Slab name half) level side = turned (Slab name half) level side
lateral (Torch lit) level side = turned (Torch lit) level side
lateral (WallTorch facing lit) level side = turned (WallTorch facing lit) level side
lateral (Repeater delay facing powered) level side = turned (Repeater delay facing powered) level side
lateral (Comparator facing subtract) level side = turned (Comparator facing subtract) level side
lateral (Lever face facing powered) level side = turned (Lever face facing powered) level side
lateral (Button name face facing powered) level side = turned (Button name face facing powered) level side
lateral (Plate name powered) level side = turned (Plate name powered) level side
lateral (Lamp lit) level side = turned (Lamp lit) level side
lateral (Trapdoor facing top powered) level side = turned (Trapdoor facing top powered) level side
lateral (Container name) level side = turned (Container name) level side
lateral (Composter fill) level side = turned (Composter fill) level side
lateral (Cauldron water fill) level side = turned (Cauldron water fill) level side
lateral (Cake bites) level side = turned (Cake bites) level side
lateral (Weighted name power) level side = turned (Weighted name power) level side
lateral (Note powered) level side = turned (Note powered) level side

abbrev pub lateral_at : Plan → (Pos → ℕ) → Pos → Side → ℕ
lateral_at b level p side = lateral (block_at b (beside side p)) (level (beside side p)) side

-- the side power of a comparator
unfoldable pub lateral_power : Plan → (Pos → ℕ) → Pos → Side → ℕ
lateral_power b level p facing = greatest (map (lateral_at b level p) (across facing))

abbrev pub side_of : Plan → (Pos → ℕ) → Pos → Block → ℕ
side_of b level p (Comparator facing subtract) = lateral_power b level p facing
side_of b level p Air = 0
side_of b level p (Inert name) = 0
side_of b level p (Slab name half) = 0
side_of b level p (Wire north east south west power) = 0
side_of b level p (Torch lit) = 0
side_of b level p (WallTorch facing lit) = 0
side_of b level p (Repeater delay facing powered) = 0
side_of b level p (Lever face facing powered) = 0
side_of b level p (Button name face facing powered) = 0
side_of b level p (Plate name powered) = 0
side_of b level p RedstoneBlock = 0
side_of b level p (Lamp lit) = 0
side_of b level p (Trapdoor facing top powered) = 0
side_of b level p (Container name) = 0
side_of b level p (Composter levels) = 0
side_of b level p (Cauldron water levels) = 0
side_of b level p (Cake bites) = 0
side_of b level p (Weighted name power) = 0
side_of b level p (Note powered) = 0

unfoldable pub side_at : Plan → (Pos → ℕ) → Pos → ℕ
side_at b level p = side_of b level p (block_at b p)
