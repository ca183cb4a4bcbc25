-- The texts of blocks, and the numbers of cells, are bytes.
use Rattle.std.proofs.Common.{◌≡◌, ℕ, zero, suc, ◌/◌, ◌<◌, ◌≤◌, List, [], ◌∷◌, ◌++◌, length, Bool, true, false, refl, arith, inl, inr}
use Rattle.std.specs.Prelude.{nat_lt, ⊤, ◌&&◌, codes}
use Rattle.std.specs.List.{list_all}
use Rattle.std.proofs.lemmas.Bool.{and_parts, cases_Bool}
use Rattle.std.proofs.lemmas.Bool.Decides.{nat_tests}
use Rattle.nbt.specs.Spelling.{AreBytes, IsText}
use Rattle.block_table.specs.declared.Side.{Side}
use Rattle.block_table.specs.declared.Side.TheVariants.{Down, Up, North, South, West, East}
use Rattle.block_table.specs.declared.Face.{Face}
use Rattle.block_table.specs.declared.Face.TheVariants.{Floor, Wall, Ceiling}
use Rattle.block_table.specs.declared.WireSide.{WireSide}
use Rattle.block_table.specs.declared.WireSide.TheVariants.{Absent, Side as Sideways, Up as Upwards}
use Rattle.block_table.specs.declared.SlabHalf.{SlabHalf}
use Rattle.block_table.specs.declared.SlabHalf.TheVariants.{Top, Bottom, Double}
use Rattle.block_table.specs.declared.Block.{Block}
use Rattle.block_table.specs.declared.Block.TheVariants.{Air, Inert, Slab, Wire, Torch, WallTorch, Repeater, Comparator, Lever, Button, Plate, RedstoneBlock, Lamp, Trapdoor, Container, Composter, Cauldron, Cake, Weighted, Note}
use Rattle.block_table.specs.StateText.{Property, namespace}
use Rattle.block_table.specs.BlockText.{numbers}
use Rattle.block_table.specs.Table.{Row, table, name_in, name_at}
use Rattle.block_table.specs.WrittenText.{state_text, name_of, kept, bracketed, after, side_text, face_text, wire_side_text, slab_half_text, flag_text, mode_text, half_text, number_text, text_in, cauldron_name}
use Rattle.schem_write.specs.Varint.{varint_within, varint}
use Rattle.schem_write.proofs.FirstOnes.{cells_by}
use Rattle.schem_write.specs.PaletteTexts.{number_in}

are_bytes : List ℕ → Bool
are_bytes t = list_all (λ b. nat_lt b 256) t

-- a text that is there in full is bytes by computing
pub literal : (t : List ℕ) → list_all (λ b. nat_lt b 256) t ≡ true → AreBytes t
literal [] h = tt
literal (b ∷ t) h =
    let parts = and_parts (nat_lt b 256) (list_all (λ c. nat_lt c 256) t) h in
    (grind (arith, nat_tests, parts.0), literal t parts.1)

pub named : (t : List ℕ) → (nat_lt (length t) 65536 && list_all (λ b. nat_lt b 256) t) ≡ true → IsText t
named t h =
    let parts = and_parts (nat_lt (length t) 65536) (list_all (λ c. nat_lt c 256) t) h in
    (grind (arith, nat_tests, parts.0), literal t parts.1)

pub joined : (s t : List ℕ) → AreBytes s → AreBytes t → AreBytes (s ++ t)
joined [] t h k = k
joined (b ∷ s) t h k = (h.0, joined s t h.1 k)

side-bytes : (s : Side) → AreBytes (side_text s)
side-bytes Down = literal (codes "down") refl
side-bytes Up = literal (codes "up") refl
side-bytes North = literal (codes "north") refl
side-bytes South = literal (codes "south") refl
side-bytes West = literal (codes "west") refl
side-bytes East = literal (codes "east") refl

face-bytes : (f : Face) → AreBytes (face_text f)
face-bytes Floor = literal (codes "floor") refl
face-bytes Wall = literal (codes "wall") refl
face-bytes Ceiling = literal (codes "ceiling") refl

wire-bytes : (s : WireSide) → AreBytes (wire_side_text s)
wire-bytes Absent = literal (codes "none") refl
wire-bytes Sideways = literal (codes "side") refl
wire-bytes Upwards = literal (codes "up") refl

slab-bytes : (h : SlabHalf) → AreBytes (slab_half_text h)
slab-bytes Top = literal (codes "top") refl
slab-bytes Bottom = literal (codes "bottom") refl
slab-bytes Double = literal (codes "double") refl

flag-bytes : (b : Bool) → AreBytes (flag_text b)
flag-bytes true = literal (codes "true") refl
flag-bytes false = literal (codes "false") refl

mode-bytes : (b : Bool) → AreBytes (mode_text b)
mode-bytes true = literal (codes "subtract") refl
mode-bytes false = literal (codes "compare") refl

half-bytes : (b : Bool) → AreBytes (half_text b)
half-bytes true = literal (codes "top") refl
half-bytes false = literal (codes "bottom") refl

cauldron-bytes : (b : Bool) → AreBytes (cauldron_name b)
cauldron-bytes true = literal (codes "water_cauldron") refl
cauldron-bytes false = literal (codes "cauldron") refl

place-bytes : (texts : List (List ℕ)) (n : ℕ) → list_all are_bytes texts ≡ true → AreBytes (text_in n texts)
unfolding are_bytes
place-bytes [] n h = tt
place-bytes (t ∷ texts) zero h = literal t (and_parts (are_bytes t) (list_all are_bytes texts) h).0
place-bytes (t ∷ texts) (suc n) h = place-bytes texts n (and_parts (are_bytes t) (list_all are_bytes texts) h).1

number-bytes : (n : ℕ) → AreBytes (number_text n)
unfolding number_text are_bytes
number-bytes n = place-bytes numbers n refl

row_bytes : Row → Bool
row_bytes row = are_bytes row.name

table-bytes : list_all row_bytes table ≡ true
unfolding table row_bytes are_bytes
table-bytes = refl

row-name : (rows : List Row) (n : ℕ) → list_all row_bytes rows ≡ true → AreBytes (name_in n rows)
unfolding row_bytes are_bytes
row-name [] n h = tt
row-name (row ∷ rows) zero h = literal row.name (and_parts (row_bytes row) (list_all row_bytes rows) h).0
row-name (row ∷ rows) (suc n) h = row-name rows n (and_parts (row_bytes row) (list_all row_bytes rows) h).1

pub name_at-bytes : (n : ℕ) → AreBytes (name_at n)
unfolding name_at
name_at-bytes n = row-name table n table-bytes

name-bytes : (block : Block) → AreBytes (name_of block)
name-bytes Air = literal (codes "air") refl
name-bytes (Inert name) = name_at-bytes name
name-bytes (Slab name half) = name_at-bytes name
name-bytes (Wire north east south west power) = literal (codes "redstone_wire") refl
name-bytes (Torch lit) = literal (codes "redstone_torch") refl
name-bytes (WallTorch facing lit) = literal (codes "redstone_wall_torch") refl
name-bytes (Repeater delay facing powered) = literal (codes "repeater") refl
name-bytes (Comparator facing subtract) = literal (codes "comparator") refl
name-bytes (Lever face facing powered) = literal (codes "lever") refl
name-bytes (Button name face facing powered) = name_at-bytes name
name-bytes (Plate name powered) = name_at-bytes name
name-bytes RedstoneBlock = literal (codes "redstone_block") refl
name-bytes (Lamp lit) = literal (codes "redstone_lamp") refl
name-bytes (Trapdoor facing top powered) = literal (codes "iron_trapdoor") refl
name-bytes (Container name) = name_at-bytes name
name-bytes (Composter level) = literal (codes "composter") refl
name-bytes (Cauldron water level) = cauldron-bytes water
name-bytes (Cake bites) = literal (codes "cake") refl
name-bytes (Weighted name power) = name_at-bytes name
name-bytes (Note powered) = literal (codes "note_block") refl

abbrev AllBytes : List Property → Type 0
AllBytes [] = ⊤
AllBytes (p ∷ ps) = AreBytes p.key × AreBytes p.value × AllBytes ps

after-bytes : (ps : List Property) → AllBytes ps → AreBytes (after ps)
after-bytes [] h = literal (codes "]") refl
after-bytes (p ∷ ps) h = (omega arith, joined p.key (61 ∷ (p.value ++ after ps)) h.0 (omega arith, joined p.value (after ps) h.1 (after-bytes ps h.2)))

bracketed-bytes : (ps : List Property) → AllBytes ps → AreBytes (bracketed ps)
bracketed-bytes [] h = tt
bracketed-bytes (p ∷ ps) h = (omega arith, joined p.key (61 ∷ (p.value ++ after ps)) h.0 (omega arith, joined p.value (after ps) h.1 (after-bytes ps h.2)))

kept-bytes : (block : Block) → AllBytes (kept block)
kept-bytes Air = tt
kept-bytes (Inert name) = tt
kept-bytes (Slab name half) = (literal (codes "type") refl, slab-bytes half, tt)
kept-bytes (Wire north east south west power) = (
  literal (codes "east") refl,
  wire-bytes east,
  (literal (codes "north") refl, wire-bytes north, (literal (codes "south") refl, wire-bytes south, (literal (codes "west") refl, wire-bytes west, (literal (codes "power") refl, number-bytes power, tt)))),
)
kept-bytes (Torch lit) = (literal (codes "lit") refl, flag-bytes lit, tt)
kept-bytes (WallTorch facing lit) = (literal (codes "facing") refl, side-bytes facing, (literal (codes "lit") refl, flag-bytes lit, tt))
kept-bytes (Repeater delay facing powered) = (literal (codes "delay") refl, number-bytes delay, (literal (codes "facing") refl, side-bytes facing, (literal (codes "powered") refl, flag-bytes powered, tt)))
kept-bytes (Comparator facing subtract) = (literal (codes "facing") refl, side-bytes facing, (literal (codes "mode") refl, mode-bytes subtract, tt))
kept-bytes (Lever face facing powered) = (literal (codes "face") refl, face-bytes face, (literal (codes "facing") refl, side-bytes facing, (literal (codes "powered") refl, flag-bytes powered, tt)))
kept-bytes (Button name face facing powered) = (literal (codes "face") refl, face-bytes face, (literal (codes "facing") refl, side-bytes facing, (literal (codes "powered") refl, flag-bytes powered, tt)))
kept-bytes (Plate name powered) = (literal (codes "powered") refl, flag-bytes powered, tt)
kept-bytes RedstoneBlock = tt
kept-bytes (Lamp lit) = (literal (codes "lit") refl, flag-bytes lit, tt)
kept-bytes (Trapdoor facing top powered) = (literal (codes "facing") refl, side-bytes facing, (literal (codes "half") refl, half-bytes top, (literal (codes "powered") refl, flag-bytes powered, tt)))
kept-bytes (Container name) = tt
kept-bytes (Composter level) = (literal (codes "level") refl, number-bytes level, tt)
kept-bytes (Cauldron water level) = (literal (codes "level") refl, number-bytes level, tt)
kept-bytes (Cake bites) = (literal (codes "bites") refl, number-bytes bites, tt)
kept-bytes (Weighted name power) = (literal (codes "power") refl, number-bytes power, tt)
kept-bytes (Note powered) = (literal (codes "powered") refl, flag-bytes powered, tt)

pub namespace-bytes : AreBytes namespace
namespace-bytes = literal (codes "minecraft:") refl

pub text-bytes : (block : Block) → AreBytes (state_text block)
unfolding state_text
text-bytes block = joined namespace (name_of block ++ bracketed (kept block)) namespace-bytes (joined (name_of block) (bracketed (kept block)) (name-bytes block) (bracketed-bytes (kept block) (kept-bytes block)))

-- a number of at most as much as the bytes that may follow
within-bytes : (more n : ℕ) → n ≤ more → AreBytes (varint_within more n)
within-bytes zero n h = (omega arith, tt)
within-bytes (suc more) n h = elim (cases_Bool (nat_lt n 128)) [
  | inl e ↦ rw e (let low : n < 128 = grind (arith, nat_tests, e) in (omega arith, tt))
  | inr e ↦ rw e (let high : 128 ≤ n = grind (arith, nat_tests, e) in (omega arith, within-bytes more (n / 128) (omega arith)))
]

varint-bytes : (n : ℕ) → AreBytes (varint n)
unfolding varint
varint-bytes n = within-bytes n n (omega arith)

pub cells-bytes : (palette texts : List (List ℕ)) → AreBytes (cells_by palette texts)
cells-bytes palette [] = tt
cells-bytes palette (t ∷ texts) = joined (varint (number_in palette t)) (cells_by palette texts) (varint-bytes (number_in palette t)) (cells-bytes palette texts)
