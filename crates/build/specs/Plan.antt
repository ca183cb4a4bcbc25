-- A build as plain data: what stands in each cell of a box, and which ticks are pending. The cells are in order of y, then z, then x; outside of the box is air.
use Rattle.std.specs.Prelude.{◌≡◌, ◌<◌, ◌≤◌, ◌≤ℤ◌, neg_ℤ, ℕ, ◌+◌, ◌-◌, ◌*◌, ◌/◌, ◌%◌, Bool, true, false, not, ◌&&◌, ◌||◌, ◌==◌, nat_lt, nat_le, if◌then◌else◌, ℤ, pos, negsuc, List, [], ◌∷◌, map, length, slice_index_or, Option, Some, None}
use Rattle.std.specs.List.{range_with_len, list_any, list_all}
use Rattle.block_table.specs.declared.Block.{Block}
use Rattle.block_table.specs.declared.Block.TheVariants.{Air, Inert, Slab, Wire, Torch, WallTorch, Repeater, Comparator, Lever, Button, Plate, RedstoneBlock, Lamp, Trapdoor, Container, Composter, Cauldron, Cake, Weighted, Note}
use Rattle.block_table.specs.Facts.{is_solid}
use Rattle.block_table.specs.WrittenText.{is_listed}
use Rattle.circuit.specs.declared.Pos.{Pos}
use Rattle.build.specs.declared.Pending.{Pending}
use Rattle.build.specs.Place.{same_place}

-- A level is what a comparator gives, or the strength of a container's items; every other cell has 0.
pub record Plan : Type 0 where
  pub width : ℕ
  pub height : ℕ
  pub depth : ℕ
  pub blocks : List Block
  pub levels : List ℕ
  pub pending : List Pending
  pub data_version : ℤ

-- the number of cells
abbrev pub volume : Plan → ℕ
volume b = b.width * (b.depth * b.height)

abbrev pub fits : ℕ → ℤ → Bool
fits n (pos k) = nat_lt k n
fits n (negsuc k) = false

unfoldable pub in_box : Plan → Pos → Bool
in_box b p = fits b.width p.x && fits b.height p.y && fits b.depth p.z

abbrev pub natural : ℤ → ℕ
natural (pos k) = k
natural (negsuc k) = 0

-- the cell of a place in the box
abbrev pub cell_of : Plan → Pos → ℕ
cell_of b p = natural p.x + (natural p.z + natural p.y * b.depth) * b.width

-- the cell of a place, where it is in the box
unfoldable pub found_cell : Plan → Pos → Option ℕ
found_cell b p = if in_box b p then Some (cell_of b p) else None

-- the place of a cell
abbrev pub place_of : Plan → ℕ → Pos
place_of b i = record { x = pos (i % b.width); y = pos (i / b.width / b.depth); z = pos (i / b.width % b.depth) }

-- all places of the box, in order
abbrev pub places : Plan → List Pos
places b = map (place_of b) (range_with_len 0 (volume b))

-- what stands at a place: the entry of its cell in the box, and `d` outside
unfoldable pub entry : {A : Type 0} → Plan → List A → A → Pos → A
entry b xs d p = if in_box b p then slice_index_or xs (cell_of b p) d else d

abbrev pub block_at : Plan → Pos → Block
block_at b p = entry b b.blocks Air p

abbrev pub solid_at : Plan → Pos → Bool
solid_at b p = is_solid (block_at b p)

-- what a comparator at the place gives as it was stored, 0 where none stands
abbrev pub output_of : Block → ℕ → ℕ
output_of (Comparator facing subtract) level = level
output_of Air level = 0
output_of (Inert name) level = 0
output_of (Slab name half) level = 0
output_of (Wire north east south west power) level = 0
output_of (Torch lit) level = 0
output_of (WallTorch facing lit) level = 0
output_of (Repeater delay facing powered) level = 0
output_of (Lever face facing powered) level = 0
output_of (Button name face facing powered) level = 0
output_of (Plate name powered) level = 0
output_of RedstoneBlock level = 0
output_of (Lamp lit) level = 0
output_of (Trapdoor facing top powered) level = 0
output_of (Container name) level = 0
output_of (Composter filled) level = 0
output_of (Cauldron water filled) level = 0
output_of (Cake bites) level = 0
output_of (Weighted name power) level = 0
output_of (Note powered) level = 0

abbrev pub output_at : Plan → Pos → ℕ
output_at b p = output_of (block_at b p) (entry b b.levels 0 p)

-- the strength that a comparator reads of a block
abbrev pub strength_of : Block → ℕ → Option ℕ
strength_of (Container name) level = Some level
strength_of (Composter filled) level = Some filled
strength_of (Cauldron water filled) level = Some filled
strength_of (Cake bites) level = Some (14 - 2 * bites)
strength_of Air level = None
strength_of (Inert name) level = None
strength_of (Slab name half) level = None
strength_of (Wire north east south west power) level = None
strength_of (Torch lit) level = None
strength_of (WallTorch facing lit) level = None
strength_of (Repeater delay facing powered) level = None
strength_of (Comparator facing subtract) level = None
strength_of (Lever face facing powered) level = None
strength_of (Button name face facing powered) level = None
strength_of (Plate name powered) level = None
strength_of RedstoneBlock level = None
strength_of (Lamp lit) level = None
strength_of (Trapdoor facing top powered) level = None
strength_of (Weighted name power) level = None
strength_of (Note powered) level = None

abbrev pub strength_at : Plan → Pos → Option ℕ
strength_at b p = strength_of (block_at b p) (entry b b.levels 0 p)

-- a level may stand with these alone
abbrev pub has_level : Block → Bool
has_level (Comparator facing subtract) = true
has_level (Container name) = true
has_level Air = false
has_level (Inert name) = false
has_level (Slab name half) = false
has_level (Wire north east south west power) = false
has_level (Torch lit) = false
has_level (WallTorch facing lit) = false
has_level (Repeater delay facing powered) = false
has_level (Lever face facing powered) = false
has_level (Button name face facing powered) = false
has_level (Plate name powered) = false
has_level RedstoneBlock = false
has_level (Lamp lit) = false
has_level (Trapdoor facing top powered) = false
has_level (Composter filled) = false
has_level (Cauldron water filled) = false
has_level (Cake bites) = false
has_level (Weighted name power) = false
has_level (Note powered) = false

-- a level is at most 15, and 0 where the block has none
abbrev pub level_fits : Block → ℕ → Bool
level_fits block level = (level == 0) || (has_level block && nat_le level 15)

-- a tick may be pending for these alone
abbrev pub is_ticking : Block → Bool
is_ticking (Torch lit) = true
is_ticking (WallTorch facing lit) = true
is_ticking (Repeater delay facing powered) = true
is_ticking (Comparator facing subtract) = true
is_ticking (Lamp lit) = true
is_ticking (Button name face facing powered) = true
is_ticking Air = false
is_ticking (Inert name) = false
is_ticking (Slab name half) = false
is_ticking (Wire north east south west power) = false
is_ticking (Lever face facing powered) = false
is_ticking (Plate name powered) = false
is_ticking RedstoneBlock = false
is_ticking (Trapdoor facing top powered) = false
is_ticking (Container name) = false
is_ticking (Composter filled) = false
is_ticking (Cauldron water filled) = false
is_ticking (Cake bites) = false
is_ticking (Weighted name power) = false
is_ticking (Note powered) = false

-- due in 1 to 15 ticks, with a priority of 0 to 3
abbrev pub is_timely : Pending → Bool
is_timely tick = (nat_lt 0 tick.due && nat_le tick.due 15) && nat_le tick.priority 3

-- some tick of the list is pending at the place
abbrev pub is_pending : List Pending → Pos → Bool
is_pending ticks p = list_any (λ (tick : Pending). same_place tick.pos p) ticks

abbrev pub may_wait : Plan → Pending → Bool
may_wait b tick = is_ticking (block_at b tick.pos) && is_timely tick

-- no place has two ticks
abbrev pub is_once : List Pending → Bool
is_once [] = true
is_once (tick ∷ ticks) = not (is_pending ticks tick.pos) && is_once ticks

-- each cell has a block of the table and a level that fits it, each pending tick may wait, and the box is small enough for an index of 32 bits
pub record IsWhole (b : Plan) : Type 0 where
  pub narrow : b.width < 65536
  pub low : b.height < 65536
  pub shallow : b.depth < 65536
  pub small : volume b ≤ 16777216
  pub blocks : length b.blocks ≡ volume b
  pub levels : length b.levels ≡ volume b
  pub listed : (p : Pos) → is_listed (block_at b p) ≡ true
  pub fitting : (p : Pos) → level_fits (block_at b p) (entry b b.levels 0 p) ≡ true
  pub waiting : list_all (may_wait b) b.pending ≡ true
  pub once : is_once b.pending ≡ true

-- the box has less than 65536 places in each direction
pub record IsNarrow (b : Plan) : Type 0 where
  pub width : b.width < 65536
  pub height : b.height < 65536
  pub depth : b.depth < 65536

-- no coordinate is more than n outside of what a box can have
pub record IsNear (n : ℕ) (p : Pos) : Type 0 where
  pub x_low : neg_ℤ (pos n) ≤ℤ p.x
  pub x_high : p.x ≤ℤ pos (65535 + n)
  pub y_low : neg_ℤ (pos n) ≤ℤ p.y
  pub y_high : p.y ≤ℤ pos (65535 + n)
  pub z_low : neg_ℤ (pos n) ≤ℤ p.z
  pub z_high : p.z ≤ℤ pos (65535 + n)
