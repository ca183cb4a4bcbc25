-- What the blocks of a build are to a circuit: which component a block is, what it holds before the start, and what it is turned to.
use Rattle.std.specs.Prelude.{ℕ, Bool, true, false, not, nat_lt, if◌then◌else◌, List, Option, Some, None, find}
use Rattle.block_table.specs.declared.Block.{Block}
use Rattle.block_table.specs.declared.Block.TheVariants.{Air, Inert, Slab, Wire, Torch, WallTorch, Repeater, Comparator, Lever, Button, Plate, RedstoneBlock, Lamp, Trapdoor, Container, Composter, Cauldron, Cake, Weighted, Note}
use Rattle.block_table.specs.declared.Side.{Side}
use Rattle.block_table.specs.Facts.{opposite}
use Rattle.circuit.specs.declared.Pos.{Pos}
use Rattle.circuit.specs.declared.Cell.{Cell}
use Rattle.circuit.specs.declared.Component.{Component}
use Rattle.circuit.specs.declared.Component.TheVariants.{Lever as LeverPart, Button as ButtonPart, Plate as PlatePart, Weighted as WeightedPart, Torch as TorchPart, Repeater as RepeaterPart, Comparator as ComparatorPart, Lamp as LampPart, Trapdoor as TrapdoorPart, Note as NotePart, Wire as WirePart}
use Rattle.build.specs.declared.Pending.{Pending}
use Rattle.build.specs.Place.{beside, same_side, same_place}
use Rattle.build.specs.Plan.{Plan, entry, block_at, solid_at, strength_at}
use Rattle.build.specs.Marks.{is_marked}

-- the number of the first button of wood: the wooden ones stand behind the others in the list of names
abbrev pub first_wooden_button : ℕ
first_wooden_button = 298

-- a button of wood stays on for 15 ticks, another one for 10
abbrev pub button_delay : ℕ → ℕ
button_delay name = if nat_lt name first_wooden_button then 10 else 15

-- The component that a block is. A wire is one where it is marked: it shows its power.
abbrev pub role_of : Bool → Block → Option Component
role_of marked (Lever face facing powered) = Some LeverPart
role_of marked (Button name face facing powered) = Some (ButtonPart (button_delay name))
role_of marked (Plate name powered) = Some PlatePart
role_of marked (Weighted name power) = Some WeightedPart
role_of marked (Torch lit) = Some TorchPart
role_of marked (WallTorch facing lit) = Some TorchPart
role_of marked (Repeater delay facing powered) = Some (RepeaterPart delay)
role_of marked (Comparator facing subtract) = Some (ComparatorPart subtract)
role_of marked (Lamp lit) = Some LampPart
role_of marked (Trapdoor facing top powered) = Some TrapdoorPart
role_of marked (Note powered) = Some NotePart
role_of marked (Wire north east south west power) = if marked then Some WirePart else None
role_of marked Air = None
role_of marked (Inert name) = None
role_of marked (Slab name half) = None
role_of marked RedstoneBlock = None
role_of marked (Container name) = None
role_of marked (Composter level) = None
role_of marked (Cauldron water level) = None
role_of marked (Cake bites) = None

unfoldable pub role_at : Plan → List Pos → Pos → Option Component
role_at b marks p = role_of (is_marked marks p) (block_at b p)

-- what a block that is no component gives, always
abbrev pub base_of : Block → ℕ
base_of RedstoneBlock = 15
base_of Air = 0
base_of (Inert name) = 0
base_of (Slab name half) = 0
base_of (Wire north east south west power) = 0
base_of (Torch lit) = 0
base_of (WallTorch facing lit) = 0
base_of (Repeater delay facing powered) = 0
base_of (Comparator facing subtract) = 0
base_of (Lever face facing powered) = 0
base_of (Button name face facing powered) = 0
base_of (Plate name powered) = 0
base_of (Lamp lit) = 0
base_of (Trapdoor facing top powered) = 0
base_of (Container name) = 0
base_of (Composter level) = 0
base_of (Cauldron water level) = 0
base_of (Cake bites) = 0
base_of (Weighted name power) = 0
base_of (Note powered) = 0

unfoldable pub base_at : Plan → Pos → ℕ
base_at b p = base_of (block_at b p)

abbrev pub on_if : Bool → ℕ
on_if true = 1
on_if false = 0

-- the value that a block stores, where it has this level
abbrev pub stored_value : Block → ℕ → ℕ
stored_value (Lever face facing powered) level = on_if powered
stored_value (Button name face facing powered) level = on_if powered
stored_value (Plate name powered) level = on_if powered
stored_value (Weighted name power) level = power
stored_value (Torch lit) level = on_if lit
stored_value (WallTorch facing lit) level = on_if lit
stored_value (Repeater delay facing powered) level = on_if powered
stored_value (Comparator facing subtract) level = level
stored_value (Lamp lit) level = on_if lit
stored_value (Trapdoor facing top powered) level = on_if powered
stored_value (Note powered) level = on_if powered
stored_value Air level = 0
stored_value (Inert name) level = 0
stored_value (Slab name half) level = 0
stored_value (Wire north east south west power) level = 0
stored_value RedstoneBlock level = 0
stored_value (Container name) level = 0
stored_value (Composter filled) level = 0
stored_value (Cauldron water filled) level = 0
stored_value (Cake bites) level = 0

-- the tick that is pending at a place before the start
abbrev pub waiting_at : List Pending → Pos → Option Pending
waiting_at ticks p = find (λ (tick : Pending). same_place tick.pos p) ticks

abbrev pub cell_with : ℕ → Option Pending → Cell
cell_with value None = record { value = value; due = 0; priority = 0 }
cell_with value (Some tick) = record { value = value; due = tick.due; priority = tick.priority }

-- only a component holds something before the start
abbrev pub stored_of : Option Component → ℕ → Option Pending → Cell
stored_of None value tick = record { value = 0; due = 0; priority = 0 }
stored_of (Some component) value tick = cell_with value tick

-- what a place holds before the start
unfoldable pub stored : Plan → List Pos → Pos → Cell
stored b marks p = stored_of (role_at b marks p) (stored_value (block_at b p) (entry b b.levels 0 p)) (waiting_at b.pending p)

-- a diode, a repeater or a comparator, whose input isn't on this side
abbrev pub is_diode_facing_elsewhere : Block → Side → Bool
is_diode_facing_elsewhere (Repeater delay facing powered) side = not (same_side facing side)
is_diode_facing_elsewhere (Comparator facing subtract) side = not (same_side facing side)
is_diode_facing_elsewhere Air side = false
is_diode_facing_elsewhere (Inert name) side = false
is_diode_facing_elsewhere (Slab name half) side = false
is_diode_facing_elsewhere (Wire north east south west power) side = false
is_diode_facing_elsewhere (Torch lit) side = false
is_diode_facing_elsewhere (WallTorch facing lit) side = false
is_diode_facing_elsewhere (Lever face facing powered) side = false
is_diode_facing_elsewhere (Button name face facing powered) side = false
is_diode_facing_elsewhere (Plate name powered) side = false
is_diode_facing_elsewhere RedstoneBlock side = false
is_diode_facing_elsewhere (Lamp lit) side = false
is_diode_facing_elsewhere (Trapdoor facing top powered) side = false
is_diode_facing_elsewhere (Container name) side = false
is_diode_facing_elsewhere (Composter level) side = false
is_diode_facing_elsewhere (Cauldron water level) side = false
is_diode_facing_elsewhere (Cake bites) side = false
is_diode_facing_elsewhere (Weighted name power) side = false
is_diode_facing_elsewhere (Note powered) side = false

-- whether a block is a diode that faces a diode: on its output side stands a diode whose facing isn't the opposite of its own
abbrev pub faces_diode : Plan → Pos → Block → Bool
faces_diode b p (Repeater delay facing powered) = is_diode_facing_elsewhere (block_at b (beside (opposite facing) p)) (opposite facing)
faces_diode b p (Comparator facing subtract) = is_diode_facing_elsewhere (block_at b (beside (opposite facing) p)) (opposite facing)
faces_diode b p Air = false
faces_diode b p (Inert name) = false
faces_diode b p (Slab name half) = false
faces_diode b p (Wire north east south west power) = false
faces_diode b p (Torch lit) = false
faces_diode b p (WallTorch facing lit) = false
faces_diode b p (Lever face facing powered) = false
faces_diode b p (Button name face facing powered) = false
faces_diode b p (Plate name powered) = false
faces_diode b p RedstoneBlock = false
faces_diode b p (Lamp lit) = false
faces_diode b p (Trapdoor facing top powered) = false
faces_diode b p (Container name) = false
faces_diode b p (Composter level) = false
faces_diode b p (Cauldron water level) = false
faces_diode b p (Cake bites) = false
faces_diode b p (Weighted name power) = false
faces_diode b p (Note powered) = false

unfoldable pub first_at : Plan → Pos → Bool
first_at b p = faces_diode b p (block_at b p)

-- the strength of the input block of a comparator
abbrev pub direct_at : Plan → Pos → Side → Option ℕ
direct_at b p facing = strength_at b (beside facing p)

abbrev pub if_solid : Bool → Option ℕ → Option ℕ
if_solid true strength = strength
if_solid false strength = None

-- the strength of the block beyond its input block, where that is solid
abbrev pub far_at : Plan → Pos → Side → Option ℕ
far_at b p facing = if_solid (solid_at b (beside facing p)) (strength_at b (beside facing (beside facing p)))
