-- What is known of blocks and sides.
use Rattle.std.specs.Prelude.{ℕ, Bool, true, false, Option, Some, None}
use Rattle.block_table.specs.declared.Side.{Side}
use Rattle.block_table.specs.declared.Side.TheVariants.{Down, Up, North, South, West, East}
use Rattle.block_table.specs.declared.SlabHalf.TheVariants.{Top, Bottom, Double}
use Rattle.block_table.specs.declared.Block.{Block}
use Rattle.block_table.specs.declared.Block.TheVariants.{Air, Inert, Slab, Wire, Torch, WallTorch, Repeater, Comparator, Lever, Button, Plate, RedstoneBlock, Lamp, Trapdoor, Container, Composter, Cauldron, Cake, Weighted, Note}
use Rattle.block_table.specs.declared.names.Kind.{Kind}
use Rattle.block_table.specs.declared.names.Kind.TheVariants.{Air as AirName, Wire as WireName, Torch as TorchName, WallTorch as WallTorchName, Repeater as RepeaterName, Comparator as ComparatorName, Lever as LeverName, Button as ButtonName, Plate as PlateName, RedstoneBlock as RedstoneBlockName, Lamp as LampName, Trapdoor as TrapdoorName, Container as ContainerName, Composter as ComposterName, Cauldron as CauldronName, Cake as CakeName, Inert as InertName, Slab as SlabName, Weighted as WeightedName, Note as NoteName}
use Rattle.block_table.specs.Table.{kind_at}

-- the other side of the same axis
abbrev pub opposite : Side → Side
opposite Down = Up
opposite Up = Down
opposite North = South
opposite South = North
opposite West = East
opposite East = West

abbrev pub is_solid_inert : Option Kind → Bool
is_solid_inert (Some (InertName solid)) = solid
is_solid_inert (Some AirName) = false
is_solid_inert (Some WireName) = false
is_solid_inert (Some TorchName) = false
is_solid_inert (Some WallTorchName) = false
is_solid_inert (Some RepeaterName) = false
is_solid_inert (Some ComparatorName) = false
is_solid_inert (Some LeverName) = false
is_solid_inert (Some ButtonName) = false
is_solid_inert (Some PlateName) = false
is_solid_inert (Some RedstoneBlockName) = false
is_solid_inert (Some LampName) = false
is_solid_inert (Some TrapdoorName) = false
is_solid_inert (Some (ContainerName slots solid)) = false
is_solid_inert (Some ComposterName) = false
is_solid_inert (Some (CauldronName water)) = false
is_solid_inert (Some CakeName) = false
is_solid_inert (Some SlabName) = false
is_solid_inert (Some WeightedName) = false
is_solid_inert (Some NoteName) = false
is_solid_inert None = false

abbrev pub is_solid_container : Option Kind → Bool
is_solid_container (Some (ContainerName slots solid)) = solid
is_solid_container (Some AirName) = false
is_solid_container (Some WireName) = false
is_solid_container (Some TorchName) = false
is_solid_container (Some WallTorchName) = false
is_solid_container (Some RepeaterName) = false
is_solid_container (Some ComparatorName) = false
is_solid_container (Some LeverName) = false
is_solid_container (Some ButtonName) = false
is_solid_container (Some PlateName) = false
is_solid_container (Some RedstoneBlockName) = false
is_solid_container (Some LampName) = false
is_solid_container (Some TrapdoorName) = false
is_solid_container (Some ComposterName) = false
is_solid_container (Some (CauldronName water)) = false
is_solid_container (Some CakeName) = false
is_solid_container (Some (InertName solid)) = false
is_solid_container (Some SlabName) = false
is_solid_container (Some WeightedName) = false
is_solid_container (Some NoteName) = false
is_solid_container None = false

abbrev pub is_slab : Option Kind → Bool
is_slab (Some SlabName) = true
is_slab (Some AirName) = false
is_slab (Some WireName) = false
is_slab (Some TorchName) = false
is_slab (Some WallTorchName) = false
is_slab (Some RepeaterName) = false
is_slab (Some ComparatorName) = false
is_slab (Some LeverName) = false
is_slab (Some ButtonName) = false
is_slab (Some PlateName) = false
is_slab (Some RedstoneBlockName) = false
is_slab (Some LampName) = false
is_slab (Some TrapdoorName) = false
is_slab (Some (ContainerName slots solid)) = false
is_slab (Some ComposterName) = false
is_slab (Some (CauldronName water)) = false
is_slab (Some CakeName) = false
is_slab (Some (InertName solid)) = false
is_slab (Some WeightedName) = false
is_slab (Some NoteName) = false
is_slab None = false

-- A solid block passes strong power on to what reads it.
abbrev pub is_solid : Block → Bool
is_solid (Inert name) = is_solid_inert (kind_at name)
is_solid (Slab name Double) = is_slab (kind_at name)
is_solid (Slab name Top) = false
is_solid (Slab name Bottom) = false
is_solid (Container name) = is_solid_container (kind_at name)
is_solid (Lamp lit) = true
is_solid (Note powered) = true
is_solid Air = false
is_solid (Wire north east south west power) = false
is_solid (Torch lit) = false
is_solid (WallTorch facing lit) = false
is_solid (Repeater delay facing powered) = false
is_solid (Comparator facing subtract) = false
is_solid (Lever face facing powered) = false
is_solid (Button name face facing powered) = false
is_solid (Plate name powered) = false
is_solid RedstoneBlock = false
is_solid (Trapdoor facing top powered) = false
is_solid (Composter level) = false
is_solid (Cauldron water level) = false
is_solid (Cake bites) = false
is_solid (Weighted name power) = false

abbrev pub slots_of : Option Kind → ℕ
slots_of (Some (ContainerName slots solid)) = slots
slots_of (Some AirName) = 0
slots_of (Some WireName) = 0
slots_of (Some TorchName) = 0
slots_of (Some WallTorchName) = 0
slots_of (Some RepeaterName) = 0
slots_of (Some ComparatorName) = 0
slots_of (Some LeverName) = 0
slots_of (Some ButtonName) = 0
slots_of (Some PlateName) = 0
slots_of (Some RedstoneBlockName) = 0
slots_of (Some LampName) = 0
slots_of (Some TrapdoorName) = 0
slots_of (Some ComposterName) = 0
slots_of (Some (CauldronName water)) = 0
slots_of (Some CakeName) = 0
slots_of (Some (InertName solid)) = 0
slots_of (Some SlabName) = 0
slots_of (Some WeightedName) = 0
slots_of (Some NoteName) = 0
slots_of None = 0

-- for how many stacks of items a block has room
abbrev pub slots : Block → ℕ
slots (Container name) = slots_of (kind_at name)
slots Air = 0
slots (Inert name) = 0
slots (Slab name half) = 0
slots (Wire north east south west power) = 0
slots (Torch lit) = 0
slots (WallTorch facing lit) = 0
slots (Repeater delay facing powered) = 0
slots (Comparator facing subtract) = 0
slots (Lever face facing powered) = 0
slots (Button name face facing powered) = 0
slots (Plate name powered) = 0
slots RedstoneBlock = 0
slots (Lamp lit) = 0
slots (Trapdoor facing top powered) = 0
slots (Composter level) = 0
slots (Cauldron water level) = 0
slots (Cake bites) = 0
slots (Weighted name power) = 0
slots (Note powered) = 0
