-- The block that a text means.
use Rattle.std.specs.Prelude.{ℕ, zero, suc, ◌+◌, ◌==◌, Bool, true, false, List, [], ◌∷◌, take, drop, Option, Some, None, option_and_then, codes}
use Rattle.std.specs.Option.{option_map}
use Rattle.block_table.specs.declared.Side.{Side}
use Rattle.block_table.specs.declared.Side.TheVariants.{North, South, West, East}
use Rattle.block_table.specs.declared.Face.{Face}
use Rattle.block_table.specs.declared.Face.TheVariants.{Floor, Wall, Ceiling}
use Rattle.block_table.specs.declared.WireSide.{WireSide}
use Rattle.block_table.specs.declared.WireSide.TheVariants.{Absent, Side as Sideways, Up as Upwards}
use Rattle.block_table.specs.declared.SlabHalf.{SlabHalf}
use Rattle.block_table.specs.declared.SlabHalf.TheVariants.{Top, Bottom, Double}
use Rattle.block_table.specs.declared.Block.{Block}
use Rattle.block_table.specs.declared.Block.TheVariants.{Air, Inert, Slab, Wire, Torch, WallTorch, Repeater, Comparator, Lever, Button, Plate, RedstoneBlock, Lamp, Trapdoor, Container, Composter, Cauldron, Cake, Weighted, Note}
use Rattle.block_table.specs.declared.names.Kind.{Kind}
use Rattle.block_table.specs.declared.names.Kind.TheVariants.{Air as AirName, Wire as WireName, Torch as TorchName, WallTorch as WallTorchName, Repeater as RepeaterName, Comparator as ComparatorName, Lever as LeverName, Button as ButtonName, Plate as PlateName, RedstoneBlock as RedstoneBlockName, Lamp as LampName, Trapdoor as TrapdoorName, Container as ContainerName, Composter as ComposterName, Cauldron as CauldronName, Cake as CakeName, Inert as InertName, Slab as SlabName, Weighted as WeightedName, Note as NoteName}
use Rattle.block_table.specs.StateText.{Property, chosen, state_of, without_namespace}
use Rattle.block_table.specs.Table.{number_of, kind_at}

-- Values of keys. In each list the default stands first.

abbrev pub faces : List (List ℕ)
faces = codes "wall" ∷ codes "floor" ∷ codes "ceiling" ∷ []

abbrev pub face_at : ℕ → Face
face_at zero = Wall
face_at (suc zero) = Floor
face_at (suc (suc n)) = Ceiling

unfoldable pub face_of : List Property → Option Face
face_of ps = option_map face_at (chosen (codes "face") faces ps)

abbrev pub facings : List (List ℕ)
facings = codes "north" ∷ codes "south" ∷ codes "west" ∷ codes "east" ∷ []

abbrev pub facing_at : ℕ → Side
facing_at zero = North
facing_at (suc zero) = South
facing_at (suc (suc zero)) = West
facing_at (suc (suc (suc n))) = East

unfoldable pub facing_of : List Property → Option Side
facing_of ps = option_map facing_at (chosen (codes "facing") facings ps)

abbrev pub wire_sides : List (List ℕ)
wire_sides = codes "none" ∷ codes "side" ∷ codes "up" ∷ []

abbrev pub wire_side_at : ℕ → WireSide
wire_side_at zero = Absent
wire_side_at (suc zero) = Sideways
wire_side_at (suc (suc n)) = Upwards

unfoldable pub wire_side_of : List ℕ → List Property → Option WireSide
wire_side_of key ps = option_map wire_side_at (chosen key wire_sides ps)

abbrev pub slab_halves : List (List ℕ)
slab_halves = codes "bottom" ∷ codes "top" ∷ codes "double" ∷ []

abbrev pub slab_half_at : ℕ → SlabHalf
slab_half_at zero = Bottom
slab_half_at (suc zero) = Top
slab_half_at (suc (suc n)) = Double

unfoldable pub slab_half_of : List Property → Option SlabHalf
slab_half_of ps = option_map slab_half_at (chosen (codes "type") slab_halves ps)

-- whether the second of two values is chosen
abbrev pub second_of : List ℕ → List (List ℕ) → List Property → Option Bool
second_of key listed ps = option_map (λ n. n == 1) (chosen key listed ps)

-- whether a key is on, where it is off by default
unfoldable pub off_or_on : List ℕ → List Property → Option Bool
off_or_on key ps = second_of key (codes "false" ∷ codes "true" ∷ []) ps

-- whether a key is on, where it is on by default
unfoldable pub on_or_off : List ℕ → List Property → Option Bool
on_or_off key ps = option_map (λ n. n == 0) (chosen key (codes "true" ∷ codes "false" ∷ []) ps)

abbrev pub numbers : List (List ℕ)
numbers =
    codes "0" ∷ codes "1" ∷ codes "2" ∷ codes "3" ∷ codes "4" ∷ codes "5" ∷ codes "6" ∷ codes "7"
    ∷ codes "8" ∷ codes "9" ∷ codes "10" ∷ codes "11" ∷ codes "12" ∷ codes "13" ∷ codes "14" ∷ codes "15" ∷ []

-- the numbers from `least` to `greatest`
abbrev pub numbers_from : ℕ → ℕ → List (List ℕ)
numbers_from least greatest = drop least (take (greatest + 1) numbers)

-- a number whose texts from `least` on are listed
unfoldable pub count_in : ℕ → List (List ℕ) → List ℕ → List Property → Option ℕ
count_in least listed key ps = option_map (λ n. least + n) (chosen key listed ps)

abbrev pub count_of : ℕ → ℕ → List ℕ → List Property → Option ℕ
count_of least greatest key ps = count_in least (numbers_from least greatest) key ps

-- a stored power
abbrev pub power_of : List Property → Option ℕ
power_of ps = count_of 0 15 (codes "power") ps

-- Blocks by their properties. What is checked and dropped stands last.

abbrev pub wire_with : Option WireSide → Option WireSide → Option WireSide → Option WireSide → Option ℕ → Option Block
wire_with (Some east) (Some north) (Some south) (Some west) (Some power) = Some (Wire north east south west power)
wire_with _ _ _ _ _ = None

unfoldable pub wire_of : List Property → Option Block
wire_of ps =
    wire_with (wire_side_of (codes "east") ps) (wire_side_of (codes "north") ps) (wire_side_of (codes "south") ps)
    (wire_side_of (codes "west") ps) (power_of ps)

unfoldable pub torch_of : List Property → Option Block
torch_of ps = option_map (λ lit. Torch lit) (on_or_off (codes "lit") ps)

abbrev pub wall_torch_with : Option Side → Option Bool → Option Block
wall_torch_with (Some facing) (Some lit) = Some (WallTorch facing lit)
wall_torch_with _ _ = None

unfoldable pub wall_torch_of : List Property → Option Block
wall_torch_of ps = wall_torch_with (facing_of ps) (on_or_off (codes "lit") ps)

abbrev pub repeater_with : Option ℕ → Option Side → Option Bool → Option Bool → Option Block
repeater_with (Some delay) (Some facing) (Some powered) (Some locked) = Some (Repeater delay facing powered)
repeater_with _ _ _ _ = None

unfoldable pub repeater_of : List Property → Option Block
repeater_of ps = repeater_with (count_of 1 4 (codes "delay") ps) (facing_of ps) (off_or_on (codes "powered") ps) (off_or_on (codes "locked") ps)

abbrev pub comparator_with : Option Side → Option Bool → Option Bool → Option Block
comparator_with (Some facing) (Some subtract) (Some powered) = Some (Comparator facing subtract)
comparator_with _ _ _ = None

-- whether a comparator subtracts
unfoldable pub subtracts : List Property → Option Bool
subtracts ps = second_of (codes "mode") (codes "compare" ∷ codes "subtract" ∷ []) ps

unfoldable pub comparator_of : List Property → Option Block
comparator_of ps = comparator_with (facing_of ps) (subtracts ps) (off_or_on (codes "powered") ps)

abbrev pub lever_with : Option Face → Option Side → Option Bool → Option Block
lever_with (Some face) (Some facing) (Some powered) = Some (Lever face facing powered)
lever_with _ _ _ = None

unfoldable pub lever_of : List Property → Option Block
lever_of ps = lever_with (face_of ps) (facing_of ps) (off_or_on (codes "powered") ps)

abbrev pub button_with : ℕ → Option Face → Option Side → Option Bool → Option Block
button_with name (Some face) (Some facing) (Some powered) = Some (Button name face facing powered)
button_with name _ _ _ = None

unfoldable pub button_of : ℕ → List Property → Option Block
button_of name ps = button_with name (face_of ps) (facing_of ps) (off_or_on (codes "powered") ps)

unfoldable pub plate_of : ℕ → List Property → Option Block
plate_of name ps = option_map (λ powered. Plate name powered) (off_or_on (codes "powered") ps)

unfoldable pub lamp_of : List Property → Option Block
lamp_of ps = option_map (λ lit. Lamp lit) (off_or_on (codes "lit") ps)

abbrev pub trapdoor_with : Option Side → Option Bool → Option Bool → Option Bool → Option Bool → Option Block
trapdoor_with (Some facing) (Some top) (Some powered) (Some open_) (Some waterlogged) = Some (Trapdoor facing top powered)
trapdoor_with _ _ _ _ _ = None

-- whether a trapdoor is in the upper half
unfoldable pub is_top : List Property → Option Bool
is_top ps = second_of (codes "half") (codes "bottom" ∷ codes "top" ∷ []) ps

unfoldable pub trapdoor_of : List Property → Option Block
trapdoor_of ps =
    trapdoor_with (facing_of ps) (is_top ps) (off_or_on (codes "powered") ps)
    (off_or_on (codes "open") ps) (off_or_on (codes "waterlogged") ps)

unfoldable pub composter_of : List Property → Option Block
composter_of ps = option_map (λ level. Composter level) (count_of 0 8 (codes "level") ps)

-- a cauldron with water has some
abbrev pub cauldron_level : Bool → List Property → Option ℕ
cauldron_level true ps = count_of 1 3 (codes "level") ps
cauldron_level false ps = count_of 0 3 (codes "level") ps

unfoldable pub cauldron_of : Bool → List Property → Option Block
cauldron_of water ps = option_map (λ level. Cauldron water level) (cauldron_level water ps)

unfoldable pub cake_of : List Property → Option Block
cake_of ps = option_map (λ bites. Cake bites) (count_of 0 6 (codes "bites") ps)

unfoldable pub slab_of : ℕ → List Property → Option Block
slab_of name ps = option_map (λ half. Slab name half) (slab_half_of ps)

unfoldable pub weighted_of : ℕ → List Property → Option Block
weighted_of name ps = option_map (λ power. Weighted name power) (power_of ps)

unfoldable pub note_of : List Property → Option Block
note_of ps = option_map (λ powered. Note powered) (off_or_on (codes "powered") ps)

-- the block of a name's meaning and number, with these properties
abbrev pub block_with : Kind → ℕ → List Property → Option Block
block_with AirName n ps = Some Air
block_with WireName n ps = wire_of ps
block_with TorchName n ps = torch_of ps
block_with WallTorchName n ps = wall_torch_of ps
block_with RepeaterName n ps = repeater_of ps
block_with ComparatorName n ps = comparator_of ps
block_with LeverName n ps = lever_of ps
block_with ButtonName n ps = button_of n ps
block_with PlateName n ps = plate_of n ps
block_with RedstoneBlockName n ps = Some RedstoneBlock
block_with LampName n ps = lamp_of ps
block_with TrapdoorName n ps = trapdoor_of ps
block_with (ContainerName slots solid) n ps = Some (Container n)
block_with ComposterName n ps = composter_of ps
block_with (CauldronName water) n ps = cauldron_of water ps
block_with CakeName n ps = cake_of ps
block_with (InertName solid) n ps = Some (Inert n)
block_with SlabName n ps = slab_of n ps
block_with WeightedName n ps = weighted_of n ps
block_with NoteName n ps = note_of ps

-- the block of a number of the list of names
unfoldable pub block_numbered : ℕ → List Property → Option Block
block_numbered n ps = option_and_then (λ kind. block_with kind n ps) (kind_at n)

-- the block of a name
unfoldable pub block_named : List ℕ → List Property → Option Block
block_named name ps = option_and_then (λ n. block_numbered n ps) (number_of name)

-- the block that a text means
unfoldable pub block_of : List ℕ → Option Block
block_of text = option_and_then (λ s. block_named s.name s.properties) (state_of (without_namespace text))
