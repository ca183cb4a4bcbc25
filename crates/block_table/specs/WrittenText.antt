-- The text of a block, and which blocks have one.
use Rattle.std.specs.Prelude.{ℕ, Bool, true, false, ◌&&◌, nat_lt, List, [], ◌∷◌, ◌++◌, slice_get, Option, Some, unwrap_or, codes, None}
use Rattle.block_table.specs.declared.Side.{Side}
use Rattle.block_table.specs.declared.Side.TheVariants.{Down, Up, North, South, West, East}
use Rattle.block_table.specs.declared.Face.{Face}
use Rattle.block_table.specs.declared.Face.TheVariants.{Floor, Wall, Ceiling}
use Rattle.block_table.specs.declared.WireSide.{WireSide}
use Rattle.block_table.specs.declared.WireSide.TheVariants.{Absent, Side as Sideways, Up as Upwards}
use Rattle.block_table.specs.declared.SlabHalf.{SlabHalf}
use Rattle.block_table.specs.declared.SlabHalf.TheVariants.{Top, Bottom, Double}
use Rattle.block_table.specs.declared.Block.{Block}
use Rattle.block_table.specs.declared.Block.TheVariants.{Air, Inert, Slab, Wire, Torch, WallTorch, Repeater, Comparator, Lever, Button, Plate, RedstoneBlock, Lamp, Trapdoor, Container, Composter, Cauldron, Cake, Weighted, Note}
use Rattle.block_table.specs.declared.names.Kind.{Kind}
use Rattle.block_table.specs.declared.names.Kind.TheVariants.{Air as AirName, Wire as WireName, Torch as TorchName, WallTorch as WallTorchName, Repeater as RepeaterName, Comparator as ComparatorName, Lever as LeverName, Button as ButtonName, Plate as PlateName, RedstoneBlock as RedstoneBlockName, Lamp as LampName, Trapdoor as TrapdoorName, Container as ContainerName, Composter as ComposterName, Cauldron as CauldronName, Cake as CakeName, Inert as InertName, Slab as SlabName, Weighted as WeightedName, Note as NoteName}
use Rattle.block_table.specs.StateText.{Property, namespace}
use Rattle.block_table.specs.BlockText.{numbers}
use Rattle.block_table.specs.Table.{kind_at, name_at}
use Rattle.block_table.specs.Facts.{is_slab}

-- texts of values

abbrev pub side_text : Side → List ℕ
side_text Down = codes "down"
side_text Up = codes "up"
side_text North = codes "north"
side_text South = codes "south"
side_text West = codes "west"
side_text East = codes "east"

abbrev pub face_text : Face → List ℕ
face_text Floor = codes "floor"
face_text Wall = codes "wall"
face_text Ceiling = codes "ceiling"

abbrev pub wire_side_text : WireSide → List ℕ
wire_side_text Absent = codes "none"
wire_side_text Sideways = codes "side"
wire_side_text Upwards = codes "up"

abbrev pub slab_half_text : SlabHalf → List ℕ
slab_half_text Top = codes "top"
slab_half_text Bottom = codes "bottom"
slab_half_text Double = codes "double"

abbrev pub flag_text : Bool → List ℕ
flag_text true = codes "true"
flag_text false = codes "false"

abbrev pub mode_text : Bool → List ℕ
mode_text true = codes "subtract"
mode_text false = codes "compare"

abbrev pub half_text : Bool → List ℕ
half_text true = codes "top"
half_text false = codes "bottom"

-- the text in a place, and an empty one where there is none
abbrev pub text_in : ℕ → List (List ℕ) → List ℕ
text_in place texts = unwrap_or (slice_get texts place) []

unfoldable pub number_text : ℕ → List ℕ
number_text n = text_in n numbers

abbrev pub property : List ℕ → List ℕ → Property
property key value = record { key = key; value = value }

-- the properties that a block keeps, in the order of the table
abbrev pub kept : Block → List Property
kept Air = []
kept (Inert name) = []
kept (Slab name half) = property (codes "type") (slab_half_text half) ∷ []
kept (Wire north east south west power) =
    property (codes "east") (wire_side_text east)
    ∷ property (codes "north") (wire_side_text north)
    ∷ property (codes "south") (wire_side_text south)
    ∷ property (codes "west") (wire_side_text west)
    ∷ property (codes "power") (number_text power) ∷ []
kept (Torch lit) = property (codes "lit") (flag_text lit) ∷ []
kept (WallTorch facing lit) = property (codes "facing") (side_text facing) ∷ property (codes "lit") (flag_text lit) ∷ []
kept (Repeater delay facing powered) =
    property (codes "delay") (number_text delay)
    ∷ property (codes "facing") (side_text facing)
    ∷ property (codes "powered") (flag_text powered) ∷ []
kept (Comparator facing subtract) = property (codes "facing") (side_text facing) ∷ property (codes "mode") (mode_text subtract) ∷ []
kept (Lever face facing powered) =
    property (codes "face") (face_text face)
    ∷ property (codes "facing") (side_text facing)
    ∷ property (codes "powered") (flag_text powered) ∷ []
kept (Button name face facing powered) =
    property (codes "face") (face_text face)
    ∷ property (codes "facing") (side_text facing)
    ∷ property (codes "powered") (flag_text powered) ∷ []
kept (Plate name powered) = property (codes "powered") (flag_text powered) ∷ []
kept RedstoneBlock = []
kept (Lamp lit) = property (codes "lit") (flag_text lit) ∷ []
kept (Trapdoor facing top powered) =
    property (codes "facing") (side_text facing)
    ∷ property (codes "half") (half_text top)
    ∷ property (codes "powered") (flag_text powered) ∷ []
kept (Container name) = []
kept (Composter level) = property (codes "level") (number_text level) ∷ []
kept (Cauldron water level) = property (codes "level") (number_text level) ∷ []
kept (Cake bites) = property (codes "bites") (number_text bites) ∷ []
kept (Weighted name power) = property (codes "power") (number_text power) ∷ []
kept (Note powered) = property (codes "powered") (flag_text powered) ∷ []

abbrev pub cauldron_name : Bool → List ℕ
cauldron_name true = codes "water_cauldron"
cauldron_name false = codes "cauldron"

abbrev pub name_of : Block → List ℕ
name_of Air = codes "air"
name_of (Inert name) = name_at name
name_of (Slab name half) = name_at name
name_of (Wire north east south west power) = codes "redstone_wire"
name_of (Torch lit) = codes "redstone_torch"
name_of (WallTorch facing lit) = codes "redstone_wall_torch"
name_of (Repeater delay facing powered) = codes "repeater"
name_of (Comparator facing subtract) = codes "comparator"
name_of (Lever face facing powered) = codes "lever"
name_of (Button name face facing powered) = name_at name
name_of (Plate name powered) = name_at name
name_of RedstoneBlock = codes "redstone_block"
name_of (Lamp lit) = codes "redstone_lamp"
name_of (Trapdoor facing top powered) = codes "iron_trapdoor"
name_of (Container name) = name_at name
name_of (Composter level) = codes "composter"
name_of (Cauldron water level) = cauldron_name water
name_of (Cake bites) = codes "cake"
name_of (Weighted name power) = name_at name
name_of (Note powered) = codes "note_block"

-- what follows a property
abbrev pub after : List Property → List ℕ
after [] = codes "]"
after (p ∷ ps) = 44 ∷ (p.key ++ (61 ∷ (p.value ++ after ps)))

-- properties in brackets, and no brackets where there is none
abbrev pub bracketed : List Property → List ℕ
bracketed [] = []
bracketed (p ∷ ps) = 91 ∷ (p.key ++ (61 ∷ (p.value ++ after ps)))

-- `minecraft:`, the name and the kept properties
unfoldable pub state_text : Block → List ℕ
state_text block = namespace ++ (name_of block ++ bracketed (kept block))

abbrev pub is_horizontal : Side → Bool
is_horizontal Down = false
is_horizontal Up = false
is_horizontal North = true
is_horizontal South = true
is_horizontal West = true
is_horizontal East = true

abbrev pub is_inert : Option Kind → Bool
is_inert (Some (InertName solid)) = true
is_inert (Some AirName) = false
is_inert (Some WireName) = false
is_inert (Some TorchName) = false
is_inert (Some WallTorchName) = false
is_inert (Some RepeaterName) = false
is_inert (Some ComparatorName) = false
is_inert (Some LeverName) = false
is_inert (Some ButtonName) = false
is_inert (Some PlateName) = false
is_inert (Some RedstoneBlockName) = false
is_inert (Some LampName) = false
is_inert (Some TrapdoorName) = false
is_inert (Some (ContainerName slots solid)) = false
is_inert (Some ComposterName) = false
is_inert (Some (CauldronName water)) = false
is_inert (Some CakeName) = false
is_inert (Some SlabName) = false
is_inert (Some WeightedName) = false
is_inert (Some NoteName) = false
is_inert None = false

abbrev pub is_button : Option Kind → Bool
is_button (Some ButtonName) = true
is_button (Some AirName) = false
is_button (Some WireName) = false
is_button (Some TorchName) = false
is_button (Some WallTorchName) = false
is_button (Some RepeaterName) = false
is_button (Some ComparatorName) = false
is_button (Some LeverName) = false
is_button (Some PlateName) = false
is_button (Some RedstoneBlockName) = false
is_button (Some LampName) = false
is_button (Some TrapdoorName) = false
is_button (Some (ContainerName slots solid)) = false
is_button (Some ComposterName) = false
is_button (Some (CauldronName water)) = false
is_button (Some CakeName) = false
is_button (Some (InertName solid)) = false
is_button (Some SlabName) = false
is_button (Some WeightedName) = false
is_button (Some NoteName) = false
is_button None = false

abbrev pub is_plate : Option Kind → Bool
is_plate (Some PlateName) = true
is_plate (Some AirName) = false
is_plate (Some WireName) = false
is_plate (Some TorchName) = false
is_plate (Some WallTorchName) = false
is_plate (Some RepeaterName) = false
is_plate (Some ComparatorName) = false
is_plate (Some LeverName) = false
is_plate (Some ButtonName) = false
is_plate (Some RedstoneBlockName) = false
is_plate (Some LampName) = false
is_plate (Some TrapdoorName) = false
is_plate (Some (ContainerName slots solid)) = false
is_plate (Some ComposterName) = false
is_plate (Some (CauldronName water)) = false
is_plate (Some CakeName) = false
is_plate (Some (InertName solid)) = false
is_plate (Some SlabName) = false
is_plate (Some WeightedName) = false
is_plate (Some NoteName) = false
is_plate None = false

abbrev pub is_container : Option Kind → Bool
is_container (Some (ContainerName slots solid)) = true
is_container (Some AirName) = false
is_container (Some WireName) = false
is_container (Some TorchName) = false
is_container (Some WallTorchName) = false
is_container (Some RepeaterName) = false
is_container (Some ComparatorName) = false
is_container (Some LeverName) = false
is_container (Some ButtonName) = false
is_container (Some PlateName) = false
is_container (Some RedstoneBlockName) = false
is_container (Some LampName) = false
is_container (Some TrapdoorName) = false
is_container (Some ComposterName) = false
is_container (Some (CauldronName water)) = false
is_container (Some CakeName) = false
is_container (Some (InertName solid)) = false
is_container (Some SlabName) = false
is_container (Some WeightedName) = false
is_container (Some NoteName) = false
is_container None = false

abbrev pub is_weighted : Option Kind → Bool
is_weighted (Some WeightedName) = true
is_weighted (Some AirName) = false
is_weighted (Some WireName) = false
is_weighted (Some TorchName) = false
is_weighted (Some WallTorchName) = false
is_weighted (Some RepeaterName) = false
is_weighted (Some ComparatorName) = false
is_weighted (Some LeverName) = false
is_weighted (Some ButtonName) = false
is_weighted (Some PlateName) = false
is_weighted (Some RedstoneBlockName) = false
is_weighted (Some LampName) = false
is_weighted (Some TrapdoorName) = false
is_weighted (Some (ContainerName slots solid)) = false
is_weighted (Some ComposterName) = false
is_weighted (Some (CauldronName water)) = false
is_weighted (Some CakeName) = false
is_weighted (Some (InertName solid)) = false
is_weighted (Some SlabName) = false
is_weighted (Some NoteName) = false
is_weighted None = false

-- whether some text means this block: its numbers are in their ranges, its facing is horizontal, and its name is one of its kind
abbrev pub is_listed : Block → Bool
is_listed Air = true
is_listed (Inert name) = is_inert (kind_at name)
is_listed (Slab name half) = is_slab (kind_at name)
is_listed (Wire north east south west power) = nat_lt power 16
is_listed (Torch lit) = true
is_listed (WallTorch facing lit) = is_horizontal facing
is_listed (Repeater delay facing powered) = (nat_lt 0 delay && nat_lt delay 5) && is_horizontal facing
is_listed (Comparator facing subtract) = is_horizontal facing
is_listed (Lever face facing powered) = is_horizontal facing
is_listed (Button name face facing powered) = is_button (kind_at name) && is_horizontal facing
is_listed (Plate name powered) = is_plate (kind_at name)
is_listed RedstoneBlock = true
is_listed (Lamp lit) = true
is_listed (Trapdoor facing top powered) = is_horizontal facing
is_listed (Container name) = is_container (kind_at name)
is_listed (Composter level) = nat_lt level 9
is_listed (Cauldron true level) = nat_lt 0 level && nat_lt level 4
is_listed (Cauldron false level) = nat_lt level 4
is_listed (Cake bites) = nat_lt bites 7
is_listed (Weighted name power) = is_weighted (kind_at name) && nat_lt power 16
is_listed (Note powered) = true

-- texts one after the other
abbrev pub joined : List (List ℕ) → List ℕ
joined [] = []
joined (text ∷ texts) = text ++ joined texts
