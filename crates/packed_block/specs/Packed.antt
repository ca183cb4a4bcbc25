-- Blocks as numbers of sixteen bits.
use Rattle.std.specs.Prelude.{ℕ, if◌then◌else◌, ◌+◌, ◌*◌, ◌/◌, ◌%◌, ◌==◌, nat_lt, Bool, true, false}
use Rattle.block_table.specs.declared.Side.{Side}
use Rattle.block_table.specs.declared.Side.TheVariants.{Down, Up, North, South, West, East}
use Rattle.block_table.specs.declared.Face.{Face}
use Rattle.block_table.specs.declared.Face.TheVariants.{Floor, Wall, Ceiling}
use Rattle.block_table.specs.declared.WireSide.{WireSide}
use Rattle.block_table.specs.declared.WireSide.TheVariants.{Absent, Side as Sideways, Up as Upwards}
use Rattle.block_table.specs.declared.SlabHalf.{SlabHalf}
use Rattle.block_table.specs.declared.SlabHalf.TheVariants.{Top, Bottom, Double}
use Rattle.block_table.specs.declared.Block.{Block}
use Rattle.block_table.specs.declared.Block.TheVariants.{Air, Inert, Slab, Wire, Torch, WallTorch, Repeater, Comparator, Lever, Button, Plate, RedstoneBlock, Lamp, Trapdoor, Container, Composter, Cauldron, Cake, Weighted, Note}
use Rattle.block_table.specs.BlockText.{face_at, facing_at, wire_side_at, slab_half_at}

abbrev pub flag_code : Bool → ℕ
flag_code false = 0
flag_code true = 1

abbrev pub facing_code : Side → ℕ
facing_code Down = 0
facing_code Up = 0
facing_code North = 0
facing_code South = 1
facing_code West = 2
facing_code East = 3

abbrev pub face_code : Face → ℕ
face_code Wall = 0
face_code Floor = 1
face_code Ceiling = 2

abbrev pub wire_side_code : WireSide → ℕ
wire_side_code Absent = 0
wire_side_code Sideways = 1
wire_side_code Upwards = 2

abbrev pub slab_half_code : SlabHalf → ℕ
slab_half_code Bottom = 0
slab_half_code Top = 1
slab_half_code Double = 2

-- Each kind has 2,048 codes, but wires have 4,096, weighted plates 8,192 and buttons 16,384.
unfoldable pub packed : Block → ℕ
packed Air = 0
packed (Inert name) = 2048 + name % 512
packed (Container name) = 4096 + name % 512
packed (Slab name half) = 6144 + name % 512 * 4 + slab_half_code half
packed (Plate name powered) = 8192 + name % 512 * 2 + flag_code powered
packed (Torch lit) = 10240 + flag_code lit
packed (WallTorch facing lit) = 12288 + facing_code facing * 2 + flag_code lit
packed (Repeater delay facing powered) = 14336 + delay % 8 * 8 + facing_code facing * 2 + flag_code powered
packed (Comparator facing subtract) = 16384 + facing_code facing * 2 + flag_code subtract
packed (Lever face facing powered) = 18432 + face_code face * 8 + facing_code facing * 2 + flag_code powered
packed RedstoneBlock = 20480
packed (Lamp lit) = 22528 + flag_code lit
packed (Trapdoor facing top powered) = 24576 + flag_code top * 8 + facing_code facing * 2 + flag_code powered
packed (Composter level) = 26624 + level % 16
packed (Cauldron water level) = 28672 + level % 16 * 2 + flag_code water
packed (Cake bites) = 30720 + bites % 16
packed (Note powered) = 32768 + flag_code powered
packed (Wire north east south west power) =
    36864 + wire_side_code north * 1024 + wire_side_code east * 256 + wire_side_code south * 64 + wire_side_code west * 16 + power % 16
packed (Weighted name power) = 40960 + name % 512 * 16 + power % 16
packed (Button name face facing powered) = 49152 + name % 512 * 32 + face_code face * 8 + facing_code facing * 2 + flag_code powered

-- Parts of a code

-- the digit that begins at this place, in this base
abbrev pub digit : ℕ → ℕ → ℕ → ℕ
digit place base code = code / place % base

abbrev pub flag_in : ℕ → Bool
flag_in code = code % 2 == 1

abbrev pub facing_in : ℕ → Side
facing_in code = facing_at (digit 2 4 code)

abbrev pub face_in : ℕ → Face
face_in code = face_at (digit 8 4 code)

abbrev pub wire_side_in : ℕ → ℕ → WireSide
wire_side_in place code = wire_side_at (digit place 4 code)

abbrev pub wire_in : ℕ → Block
wire_in code = Wire (wire_side_in 1024 code) (wire_side_in 256 code) (wire_side_in 64 code) (wire_side_in 16 code) (code % 16)

-- The block of a code. `tag` is how often the code holds 2,048.
unfoldable pub unpacked_by : ℕ → ℕ → Block
unpacked_by tag code =
    if nat_lt 23 tag then Button (digit 32 512 code) (face_in code) (facing_in code) (flag_in code) else
    (if nat_lt 19 tag then Weighted (digit 16 512 code) (code % 16) else
    (if nat_lt 16 tag then wire_in code else
    (if tag == 0 then Air else
    (if tag == 1 then Inert (code % 512) else
    (if tag == 2 then Container (code % 512) else
    (if tag == 3 then Slab (digit 4 512 code) (slab_half_at (code % 4)) else
    (if tag == 4 then Plate (digit 2 512 code) (flag_in code) else
    (if tag == 5 then Torch (flag_in code) else
    (if tag == 6 then WallTorch (facing_in code) (flag_in code) else
    (if tag == 7 then Repeater (digit 8 8 code) (facing_in code) (flag_in code) else
    (if tag == 8 then Comparator (facing_in code) (flag_in code) else
    (if tag == 9 then Lever (face_in code) (facing_in code) (flag_in code) else
    (if tag == 10 then RedstoneBlock else
    (if tag == 11 then Lamp (flag_in code) else
    (if tag == 12 then Trapdoor (facing_in code) (digit 8 2 code == 1) (flag_in code) else
    (if tag == 13 then Composter (code % 16) else
    (if tag == 14 then Cauldron (flag_in code) (digit 2 16 code) else
    (if tag == 15 then Cake (code % 16) else
    Note (flag_in code)))))))))))))))))))

-- the block of a code
unfoldable pub unpacked : ℕ → Block
unpacked code = unpacked_by (code / 2048) code
