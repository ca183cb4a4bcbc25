-- What a reader taps: the components and wires at its read places that can ever give power to it, whatever the states.
use Rattle.std.specs.Prelude.{Bool, true, false, not, ◌&&◌, ◌||◌, if◌then◌else◌, List, [], ◌∷◌}
use Rattle.std.specs.List.{flat_map}
use Rattle.block_table.specs.declared.Side.{Side}
use Rattle.block_table.specs.declared.Side.TheVariants.{Down, Up, North, South, West, East}
use Rattle.block_table.specs.declared.Block.{Block}
use Rattle.block_table.specs.declared.Block.TheVariants.{Air, Inert, Slab, Wire, Torch, WallTorch, Repeater, Comparator, Lever, Button, Plate, RedstoneBlock, Lamp, Trapdoor, Container, Composter, Cauldron, Cake, Weighted, Note}
use Rattle.block_table.specs.Facts.{opposite}
use Rattle.circuit.specs.declared.Pos.{Pos}
use Rattle.build.specs.Place.{beside, sides, same_side}
use Rattle.build.specs.Plan.{Plan, block_at, solid_at}
use Rattle.wire_shape.specs.Shape.{wire_at, points}
use Rattle.power_rules.specs.Power.{hung}
pub use Rattle.wiring.specs.declared.taps.Tap.{Tap}
pub use Rattle.wiring.specs.declared.taps.Tap.TheVariants.{Direct, Wired}

-- the rule on weak power lets a component of this kind give power on this side
abbrev pub lets_weak : Block → Side → Bool
lets_weak (Torch lit) side = not (same_side side Down)
lets_weak (WallTorch facing lit) side = not (same_side side (opposite facing))
lets_weak RedstoneBlock side = true
lets_weak (Lever face facing powered) side = true
lets_weak (Button name face facing powered) side = true
lets_weak (Plate name powered) side = true
lets_weak (Weighted name power) side = true
lets_weak (Repeater delay facing powered) side = same_side side (opposite facing)
lets_weak (Comparator facing subtract) side = same_side side (opposite facing)
lets_weak Air side = false
lets_weak (Inert name) side = false
lets_weak (Slab name half) side = false
lets_weak (Wire north east south west power) side = false
lets_weak (Lamp lit) side = false
lets_weak (Trapdoor facing top powered) side = false
lets_weak (Container name) side = false
lets_weak (Composter filled) side = false
lets_weak (Cauldron water filled) side = false
lets_weak (Cake bites) side = false
lets_weak (Note powered) side = false

-- the rule on strong power lets a component of this kind give power on this side
abbrev pub lets_strong : Block → Side → Bool
lets_strong (Torch lit) side = same_side side Up
lets_strong (WallTorch facing lit) side = same_side side Up
lets_strong (Lever face facing powered) side = same_side side (hung face facing)
lets_strong (Button name face facing powered) side = same_side side (hung face facing)
lets_strong (Plate name powered) side = same_side side Down
lets_strong (Weighted name power) side = same_side side Down
lets_strong (Repeater delay facing powered) side = same_side side (opposite facing)
lets_strong (Comparator facing subtract) side = same_side side (opposite facing)
lets_strong Air side = false
lets_strong (Inert name) side = false
lets_strong (Slab name half) side = false
lets_strong (Wire north east south west power) side = false
lets_strong RedstoneBlock side = false
lets_strong (Lamp lit) side = false
lets_strong (Trapdoor facing top powered) side = false
lets_strong (Container name) side = false
lets_strong (Composter filled) side = false
lets_strong (Cauldron water filled) side = false
lets_strong (Cake bites) side = false
lets_strong (Note powered) side = false

-- a wire gives its power to the block below and to the horizontal sides that it points to
abbrev pub wire_gives : Plan → Pos → Side → Bool
wire_gives b p Down = true
wire_gives b p Up = false
wire_gives b p North = points b p North
wire_gives b p South = points b p South
wire_gives b p West = points b p West
wire_gives b p East = points b p East

abbrev pub when : Bool → Tap → List Tap
when test tap = if test then tap ∷ [] else []

-- what stands at q and can give strong power on this side
abbrev pub strong_taps : Plan → Pos → Side → List Tap
strong_taps b q side = if wire_at b q then when (wire_gives b q side) (Wired q) else when (lets_strong (block_at b q) side) (Direct q)

-- what stands at q and can give weak power on this side; a diode reads each wire
abbrev pub weak_taps : Plan → Bool → Pos → Side → List Tap
weak_taps b diode q side = if wire_at b q then when (diode || wire_gives b q side) (Wired q) else when (lets_weak (block_at b q) side) (Direct q)

-- The taps of the read place on a side of the reader at p: around a solid one what gives it strong power, else what stands there itself.
unfoldable pub back_taps : Plan → Bool → Pos → Side → List Tap
back_taps b diode p side =
    if solid_at b (beside side p)
    then flat_map (λ s. strong_taps b (beside s (beside side p)) (opposite s)) sides
    else weak_taps b diode (beside side p) (opposite side)

-- a diode on this side of its reader has its output turned to it
abbrev pub is_turned : Block → Side → Bool
is_turned (Repeater delay facing powered) side = same_side facing side
is_turned (Comparator facing subtract) side = same_side facing side
is_turned Air side = false
is_turned (Inert name) side = false
is_turned (Slab name half) side = false
is_turned (Wire north east south west power) side = false
is_turned (Torch lit) side = false
is_turned (WallTorch facing lit) side = false
is_turned (Lever face facing powered) side = false
is_turned (Button name face facing powered) side = false
is_turned (Plate name powered) side = false
is_turned RedstoneBlock side = false
is_turned (Lamp lit) side = false
is_turned (Trapdoor facing top powered) side = false
is_turned (Container name) side = false
is_turned (Composter filled) side = false
is_turned (Cauldron water filled) side = false
is_turned (Cake bites) side = false
is_turned (Weighted name power) side = false
is_turned (Note powered) side = false

abbrev pub is_redstone : Block → Bool
is_redstone RedstoneBlock = true
is_redstone Air = false
is_redstone (Inert name) = false
is_redstone (Slab name half) = false
is_redstone (Wire north east south west power) = false
is_redstone (Torch lit) = false
is_redstone (WallTorch facing lit) = false
is_redstone (Repeater delay facing powered) = false
is_redstone (Comparator facing subtract) = false
is_redstone (Lever face facing powered) = false
is_redstone (Button name face facing powered) = false
is_redstone (Plate name powered) = false
is_redstone (Lamp lit) = false
is_redstone (Trapdoor facing top powered) = false
is_redstone (Container name) = false
is_redstone (Composter filled) = false
is_redstone (Cauldron water filled) = false
is_redstone (Cake bites) = false
is_redstone (Weighted name power) = false
is_redstone (Note powered) = false

-- The taps of the diode at p on one of its sides: a diode that is turned to it, and for a comparator a block of redstone and a wire.
unfoldable pub side_taps : Plan → Bool → Pos → Side → List Tap
side_taps b comparator p side =
    if comparator && wire_at b (beside side p) then Wired (beside side p) ∷ []
    else when (is_turned (block_at b (beside side p)) side || (comparator && is_redstone (block_at b (beside side p)))) (Direct (beside side p))
