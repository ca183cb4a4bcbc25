-- Builds that are made, and what one edit makes of a build.
use Rattle.std.specs.Prelude.{ℕ, ◌*◌, Bool, true, false, not, ℤ, List, [], ◌∷◌, ◌++◌, filter, replicate, slice_set}
use Rattle.block_table.specs.declared.Block.{Block}
use Rattle.block_table.specs.declared.Block.TheVariants.{Air, Inert, Slab, Wire, Torch, WallTorch, Repeater, Comparator, Lever, Button, Plate, RedstoneBlock, Lamp, Trapdoor, Container, Composter, Cauldron, Cake, Weighted, Note}
use Rattle.circuit.specs.declared.Pos.{Pos}
use Rattle.build.specs.declared.Pending.{Pending}
use Rattle.build.specs.Place.{same_place}
use Rattle.build.specs.Plan.{Plan, cell_of}

-- these blocks: every level is 0, and no tick is pending
abbrev pub fresh : ℕ → ℕ → ℕ → ℤ → List Block → Plan
fresh width height depth data_version blocks = record {
  width = width;
  height = height;
  depth = depth;
  blocks = blocks;
  levels = replicate (width * (depth * height)) 0;
  pending = [];
  data_version = data_version;
}

abbrev pub all_air : ℕ → ℕ → ℕ → ℤ → Plan
all_air width height depth data_version = fresh width height depth data_version (replicate (width * (depth * height)) Air)

-- the ticks that are pending elsewhere
abbrev pub pending_elsewhere : Pos → List Pending → List Pending
pending_elsewhere p ticks = filter (λ (tick : Pending). not (same_place tick.pos p)) ticks

-- the block at a place of the box, with level 0 and no pending tick; all else stays
unfoldable pub with_block : Plan → Pos → Block → Plan
with_block b p block = record b {
  blocks = slice_set b.blocks (cell_of b p) block;
  levels = slice_set b.levels (cell_of b p) 0;
  pending = pending_elsewhere p b.pending;
}

-- the level at a place of the box; all else stays
unfoldable pub with_level : Plan → Pos → ℕ → Plan
with_level b p level = record b { levels = slice_set b.levels (cell_of b p) level }

-- the tick behind the pending ones; all else stays
unfoldable pub with_pending : Plan → Pending → Plan
with_pending b tick = record b { pending = b.pending ++ tick ∷ [] }

abbrev pub is_comparator : Block → Bool
is_comparator (Comparator facing subtract) = true
is_comparator Air = false
is_comparator (Inert name) = false
is_comparator (Slab name half) = false
is_comparator (Wire north east south west power) = false
is_comparator (Torch lit) = false
is_comparator (WallTorch facing lit) = false
is_comparator (Repeater delay facing powered) = false
is_comparator (Lever face facing powered) = false
is_comparator (Button name face facing powered) = false
is_comparator (Plate name powered) = false
is_comparator RedstoneBlock = false
is_comparator (Lamp lit) = false
is_comparator (Trapdoor facing top powered) = false
is_comparator (Container name) = false
is_comparator (Composter level) = false
is_comparator (Cauldron water level) = false
is_comparator (Cake bites) = false
is_comparator (Weighted name power) = false
is_comparator (Note powered) = false

abbrev pub is_container : Block → Bool
is_container (Container name) = true
is_container Air = false
is_container (Inert name) = false
is_container (Slab name half) = false
is_container (Wire north east south west power) = false
is_container (Torch lit) = false
is_container (WallTorch facing lit) = false
is_container (Repeater delay facing powered) = false
is_container (Comparator facing subtract) = false
is_container (Lever face facing powered) = false
is_container (Button name face facing powered) = false
is_container (Plate name powered) = false
is_container RedstoneBlock = false
is_container (Lamp lit) = false
is_container (Trapdoor facing top powered) = false
is_container (Composter level) = false
is_container (Cauldron water level) = false
is_container (Cake bites) = false
is_container (Weighted name power) = false
is_container (Note powered) = false
