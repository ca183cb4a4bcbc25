-- To which sides a wire joins its neighbours, and to which it points. Both depend on the blocks alone.
use Rattle.std.specs.Prelude.{Bool, true, false, not, ◌&&◌, ◌||◌, if◌then◌else◌, List, [], ◌∷◌}
use Rattle.std.specs.List.{list_any}
use Rattle.block_table.specs.declared.Side.{Side}
use Rattle.block_table.specs.declared.Side.TheVariants.{Up, Down, North, South, West, East}
use Rattle.block_table.specs.declared.WireSide.{WireSide}
use Rattle.block_table.specs.declared.WireSide.TheVariants.{Absent as NoSide}
use Rattle.block_table.specs.declared.Block.{Block}
use Rattle.block_table.specs.declared.Block.TheVariants.{Air, Inert, Slab, Wire, Torch, WallTorch, Repeater, Comparator, Lever, Button, Plate, RedstoneBlock, Lamp, Trapdoor, Container, Composter, Cauldron, Cake, Weighted, Note}
use Rattle.block_table.specs.Facts.{opposite}
use Rattle.circuit.specs.declared.Pos.{Pos}
use Rattle.build.specs.Place.{beside, same_side}
use Rattle.build.specs.Plan.{Plan, block_at, solid_at}
use Rattle.wire_shape.specs.declared.Conn.{Conn}
use Rattle.wire_shape.specs.declared.Conn.TheVariants.{Absent, Side as ToSide, Up as ToUp}

-- the four horizontal sides, in the order of the places there
abbrev pub around : List Side
around = North ∷ West ∷ East ∷ South ∷ []

-- the two horizontal sides of the other axis
abbrev pub across : Side → List Side
across North = West ∷ East ∷ []
across South = West ∷ East ∷ []
across West = North ∷ South ∷ []
across East = North ∷ South ∷ []
across _ = []

abbrev pub is_horizontal : Side → Bool
is_horizontal Down = false
is_horizontal Up = false
is_horizontal _ = true

abbrev pub is_wire : Block → Bool
is_wire (Wire north east south west power) = true
is_wire Air = false
is_wire (Inert name) = false
is_wire (Slab name half) = false
is_wire (Torch lit) = false
is_wire (WallTorch facing lit) = false
is_wire (Repeater delay facing powered) = false
is_wire (Comparator facing subtract) = false
is_wire (Lever face facing powered) = false
is_wire (Button name face facing powered) = false
is_wire (Plate name powered) = false
is_wire RedstoneBlock = false
is_wire (Lamp lit) = false
is_wire (Trapdoor facing top powered) = false
is_wire (Container name) = false
is_wire (Composter level) = false
is_wire (Cauldron water level) = false
is_wire (Cake bites) = false
is_wire (Weighted name power) = false
is_wire (Note powered) = false

abbrev pub wire_at : Plan → Pos → Bool
wire_at b p = is_wire (block_at b p)

-- A wire joins these blocks, where they stand on this side of it: a repeater only by its input or its output.
abbrev pub joins : Block → Side → Bool
joins (Wire north east south west power) side = true
joins (Comparator facing subtract) side = true
joins (Torch lit) side = true
joins (WallTorch facing lit) side = true
joins RedstoneBlock side = true
joins (Plate name powered) side = true
joins (Weighted name power) side = true
joins (Lever face facing powered) side = true
joins (Button name face facing powered) side = true
joins (Repeater delay facing powered) side = same_side facing side || same_side facing (opposite side)
joins Air side = false
joins (Inert name) side = false
joins (Slab name half) side = false
joins (Lamp lit) side = false
joins (Trapdoor facing top powered) side = false
joins (Container name) side = false
joins (Composter level) side = false
joins (Cauldron water level) side = false
joins (Cake bites) side = false
joins (Note powered) side = false

-- How a wire is joined on a horizontal side: to what stands there; else up to a wire above its neighbour, unless a solid block
-- stands above it; else down to a wire below its neighbour, unless that is solid; else not at all.
unfoldable pub connection : Plan → Pos → Side → Conn
connection b p side =
    if joins (block_at b (beside side p)) side then ToSide
    else if not (solid_at b (beside Up p)) && wire_at b (beside Up (beside side p)) then ToUp
    else if not (solid_at b (beside side p)) && wire_at b (beside Down (beside side p)) then ToSide
    else Absent

abbrev pub is_joined : Conn → Bool
is_joined Absent = false
is_joined _ = true

abbrev pub connected : Plan → Pos → Side → Bool
connected b p side = is_joined (connection b p side)

abbrev pub is_no_side : WireSide → Bool
is_no_side NoSide = true
is_no_side _ = false

-- a wire whose stored sides are all `none`
abbrev pub is_dot : Block → Bool
is_dot (Wire north east south west power) = is_no_side north && is_no_side east && is_no_side south && is_no_side west
is_dot Air = false
is_dot (Inert name) = false
is_dot (Slab name half) = false
is_dot (Torch lit) = false
is_dot (WallTorch facing lit) = false
is_dot (Repeater delay facing powered) = false
is_dot (Comparator facing subtract) = false
is_dot (Lever face facing powered) = false
is_dot (Button name face facing powered) = false
is_dot (Plate name powered) = false
is_dot RedstoneBlock = false
is_dot (Lamp lit) = false
is_dot (Trapdoor facing top powered) = false
is_dot (Container name) = false
is_dot (Composter level) = false
is_dot (Cauldron water level) = false
is_dot (Cake bites) = false
is_dot (Weighted name power) = false
is_dot (Note powered) = false

-- A wire points to each horizontal side that it joins, and to each other one where it joins neither side of the other axis.
-- A dot that joins nothing points nowhere.
unfoldable pub points : Plan → Pos → Side → Bool
points b p side =
    if is_dot (block_at b p) && not (list_any (connected b p) around) then false
    else connected b p side || not (list_any (connected b p) (across side))
