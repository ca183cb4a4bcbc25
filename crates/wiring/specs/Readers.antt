-- What each kind of reader taps.
use Rattle.std.specs.Prelude.{true, false, if◌then◌else◌, List, [], ◌∷◌, is_some}
use Rattle.std.specs.List.{flat_map}
use Rattle.block_table.specs.declared.Side.TheVariants.{Down}
use Rattle.block_table.specs.declared.Block.{Block}
use Rattle.block_table.specs.declared.Block.TheVariants.{Air, Inert, Slab, Wire, Torch, WallTorch, Repeater, Comparator, Lever, Button, Plate, RedstoneBlock, Lamp, Trapdoor, Container, Composter, Cauldron, Cake, Weighted, Note}
use Rattle.block_table.specs.Facts.{opposite}
use Rattle.circuit.specs.declared.Pos.{Pos}
use Rattle.build.specs.Place.{sides}
use Rattle.build.specs.Plan.{Plan}
use Rattle.build.specs.Roles.{direct_at}
use Rattle.wire_shape.specs.Shape.{across}
use Rattle.wiring.specs.Taps.{Tap, Wired, back_taps, side_taps}

-- the taps of its back
abbrev pub reader_taps : Plan → Pos → Block → List Tap
reader_taps b p (Torch lit) = back_taps b false p Down
reader_taps b p (WallTorch facing lit) = back_taps b false p (opposite facing)
reader_taps b p (Lamp lit) = flat_map (back_taps b false p) sides
reader_taps b p (Trapdoor facing top powered) = flat_map (back_taps b false p) sides
reader_taps b p (Note powered) = flat_map (back_taps b false p) sides
reader_taps b p (Repeater delay facing powered) = back_taps b true p facing
reader_taps b p (Comparator facing subtract) = if is_some (direct_at b p facing) then [] else back_taps b true p facing
reader_taps b p (Wire north east south west power) = Wired p ∷ []
reader_taps b p Air = []
reader_taps b p (Inert name) = []
reader_taps b p (Slab name half) = []
reader_taps b p (Lever face facing powered) = []
reader_taps b p (Button name face facing powered) = []
reader_taps b p (Plate name powered) = []
reader_taps b p RedstoneBlock = []
reader_taps b p (Container name) = []
reader_taps b p (Composter filled) = []
reader_taps b p (Cauldron water filled) = []
reader_taps b p (Cake bites) = []
reader_taps b p (Weighted name power) = []

-- the taps of its sides
abbrev pub reader_side_taps : Plan → Pos → Block → List Tap
reader_side_taps b p (Repeater delay facing powered) = flat_map (side_taps b false p) (across facing)
reader_side_taps b p (Comparator facing subtract) = flat_map (side_taps b true p) (across facing)
reader_side_taps b p Air = []
reader_side_taps b p (Inert name) = []
reader_side_taps b p (Slab name half) = []
reader_side_taps b p (Wire north east south west power) = []
reader_side_taps b p (Torch lit) = []
reader_side_taps b p (WallTorch facing lit) = []
reader_side_taps b p (Lever face facing powered) = []
reader_side_taps b p (Button name face facing powered) = []
reader_side_taps b p (Plate name powered) = []
reader_side_taps b p RedstoneBlock = []
reader_side_taps b p (Lamp lit) = []
reader_side_taps b p (Trapdoor facing top powered) = []
reader_side_taps b p (Container name) = []
reader_side_taps b p (Composter filled) = []
reader_side_taps b p (Cauldron water filled) = []
reader_side_taps b p (Cake bites) = []
reader_side_taps b p (Weighted name power) = []
reader_side_taps b p (Note powered) = []
