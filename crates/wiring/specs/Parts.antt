-- What is known of a thing before a build runs.
use Rattle.std.specs.Prelude.{ℕ, false, List, Option, None, slice_index_or}
use Rattle.circuit.specs.declared.Pos.{Pos}
use Rattle.block_table.specs.declared.Block.{Block}
use Rattle.block_table.specs.declared.Block.TheVariants.{Air, Inert, Slab, Wire, Torch, WallTorch, Repeater, Comparator, Lever, Button, Plate, RedstoneBlock, Lamp, Trapdoor, Container, Composter, Cauldron, Cake, Weighted, Note}
use Rattle.build.specs.Plan.{Plan, block_at}
use Rattle.build.specs.Roles.{role_at, base_at, first_at, direct_at, far_at}
use Rattle.wire_shape.specs.Shape.{wire_at}
pub use Rattle.wiring.specs.declared.parts.Part.{Part}

-- of a comparator, the strength of its input block
abbrev pub input_strength : Plan → Pos → Block → Option ℕ
input_strength b p (Comparator facing subtract) = direct_at b p facing
input_strength b p Air = None
input_strength b p (Inert name) = None
input_strength b p (Slab name half) = None
input_strength b p (Wire north east south west power) = None
input_strength b p (Torch lit) = None
input_strength b p (WallTorch facing lit) = None
input_strength b p (Repeater delay facing powered) = None
input_strength b p (Lever face facing powered) = None
input_strength b p (Button name face facing powered) = None
input_strength b p (Plate name powered) = None
input_strength b p RedstoneBlock = None
input_strength b p (Lamp lit) = None
input_strength b p (Trapdoor facing top powered) = None
input_strength b p (Container name) = None
input_strength b p (Composter filled) = None
input_strength b p (Cauldron water filled) = None
input_strength b p (Cake bites) = None
input_strength b p (Weighted name power) = None
input_strength b p (Note powered) = None

-- and that of the block beyond
abbrev pub far_strength : Plan → Pos → Block → Option ℕ
far_strength b p (Comparator facing subtract) = far_at b p facing
far_strength b p Air = None
far_strength b p (Inert name) = None
far_strength b p (Slab name half) = None
far_strength b p (Wire north east south west power) = None
far_strength b p (Torch lit) = None
far_strength b p (WallTorch facing lit) = None
far_strength b p (Repeater delay facing powered) = None
far_strength b p (Lever face facing powered) = None
far_strength b p (Button name face facing powered) = None
far_strength b p (Plate name powered) = None
far_strength b p RedstoneBlock = None
far_strength b p (Lamp lit) = None
far_strength b p (Trapdoor facing top powered) = None
far_strength b p (Container name) = None
far_strength b p (Composter filled) = None
far_strength b p (Cauldron water filled) = None
far_strength b p (Cake bites) = None
far_strength b p (Weighted name power) = None
far_strength b p (Note powered) = None

abbrev pub part_at : Plan → List Pos → Pos → Part
part_at b marks p = record {
  component = role_at b marks p;
  wire = wire_at b p;
  first = first_at b p;
  base = base_at b p;
  direct = input_strength b p (block_at b p);
  far = far_strength b p (block_at b p);
}

abbrev pub no_part : Part
no_part = record { component = None; wire = false; first = false; base = 0; direct = None; far = None }

-- the part of a number
abbrev pub part_in : List Part → ℕ → Part
part_in parts number = slice_index_or parts number no_part
