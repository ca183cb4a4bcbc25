-- How long the texts of blocks are.
use Rattle.std.proofs.Common.{◌≡◌, ℕ, zero, suc, ◌+◌, ◌*◌, ◌^◌, ◌<◌, ◌≤◌, List, [], ◌∷◌, ◌++◌, length, Bool, true, false, refl, arith, lit≤}
use Rattle.std.specs.Prelude.{nat_le, ⊤}
use Rattle.std.specs.List.{list_all}
use Rattle.std.proofs.lemmas.Bool.{and_parts}
use Rattle.std.proofs.lemmas.Bool.Decides.{nat_tests}
use Rattle.std.proofs.lemmas.List.{length-append}
use Rattle.block_table.specs.declared.Side.{Side}
use Rattle.block_table.specs.declared.Side.TheVariants.{Down, Up, North, South, West, East}
use Rattle.block_table.specs.declared.Face.{Face}
use Rattle.block_table.specs.declared.Face.TheVariants.{Floor, Wall, Ceiling}
use Rattle.block_table.specs.declared.WireSide.{WireSide}
use Rattle.block_table.specs.declared.WireSide.TheVariants.{Absent, Side as Sideways, Up as Upwards}
use Rattle.block_table.specs.declared.SlabHalf.{SlabHalf}
use Rattle.block_table.specs.declared.SlabHalf.TheVariants.{Top, Bottom, Double}
use Rattle.block_table.specs.declared.Block.{Block}
use Rattle.block_table.specs.declared.Block.TheVariants.{Air, Inert, Slab, Wire, Torch, WallTorch, Repeater, Comparator, Lever, Button, Plate, RedstoneBlock, Lamp, Trapdoor, Container, Composter, Cauldron, Cake, Weighted, Note}
use Rattle.block_table.specs.StateText.{Property, namespace}
use Rattle.block_table.specs.BlockText.{numbers}
use Rattle.block_table.specs.Table.{Row, table, name_in, name_at}
use Rattle.block_table.specs.WrittenText.{state_text, name_of, kept, bracketed, after, side_text, face_text, wire_side_text, slab_half_text, flag_text, mode_text, half_text, number_text, text_in, cauldron_name}

abbrev pub Short : List ℕ → Type 0
Short t = length t ≤ 99

side-short : (s : Side) → Short (side_text s)
side-short Down = lit≤ tt
side-short Up = lit≤ tt
side-short North = lit≤ tt
side-short South = lit≤ tt
side-short West = lit≤ tt
side-short East = lit≤ tt

face-short : (f : Face) → Short (face_text f)
face-short Floor = lit≤ tt
face-short Wall = lit≤ tt
face-short Ceiling = lit≤ tt

wire-short : (s : WireSide) → Short (wire_side_text s)
wire-short Absent = lit≤ tt
wire-short Sideways = lit≤ tt
wire-short Upwards = lit≤ tt

slab-short : (h : SlabHalf) → Short (slab_half_text h)
slab-short Top = lit≤ tt
slab-short Bottom = lit≤ tt
slab-short Double = lit≤ tt

flag-short : (b : Bool) → Short (flag_text b)
flag-short true = lit≤ tt
flag-short false = lit≤ tt

mode-short : (b : Bool) → Short (mode_text b)
mode-short true = lit≤ tt
mode-short false = lit≤ tt

half-short : (b : Bool) → Short (half_text b)
half-short true = lit≤ tt
half-short false = lit≤ tt

cauldron-short : (b : Bool) → Short (cauldron_name b)
cauldron-short true = lit≤ tt
cauldron-short false = lit≤ tt

is_short : List ℕ → Bool
is_short t = nat_le (length t) 99

short-is : (t : List ℕ) → is_short t ≡ true → Short t
unfolding is_short
short-is t h = grind (arith, nat_tests, h)

place-short : (texts : List (List ℕ)) (n : ℕ) → list_all is_short texts ≡ true → Short (text_in n texts)
place-short [] n h = lit≤ tt
place-short (t ∷ texts) zero h = short-is t (and_parts (is_short t) (list_all is_short texts) h).0
place-short (t ∷ texts) (suc n) h = place-short texts n (and_parts (is_short t) (list_all is_short texts) h).1

numbers-short : list_all is_short numbers ≡ true
unfolding is_short
numbers-short = refl

number-short : (n : ℕ) → Short (number_text n)
unfolding number_text
number-short n = place-short numbers n numbers-short

row_short : Row → Bool
row_short row = is_short row.name

table-short : list_all row_short table ≡ true
unfolding table row_short is_short
table-short = refl

row-name : (rows : List Row) (n : ℕ) → list_all row_short rows ≡ true → Short (name_in n rows)
unfolding row_short
row-name [] n h = lit≤ tt
row-name (row ∷ rows) zero h = short-is row.name (and_parts (row_short row) (list_all row_short rows) h).0
row-name (row ∷ rows) (suc n) h = row-name rows n (and_parts (row_short row) (list_all row_short rows) h).1

pub name_at-short : (n : ℕ) → Short (name_at n)
unfolding name_at
name_at-short n = row-name table n table-short

name-short : (block : Block) → Short (name_of block)
name-short Air = lit≤ tt
name-short (Inert name) = name_at-short name
name-short (Slab name half) = name_at-short name
name-short (Wire north east south west power) = lit≤ tt
name-short (Torch lit) = lit≤ tt
name-short (WallTorch facing lit) = lit≤ tt
name-short (Repeater delay facing powered) = lit≤ tt
name-short (Comparator facing subtract) = lit≤ tt
name-short (Lever face facing powered) = lit≤ tt
name-short (Button name face facing powered) = name_at-short name
name-short (Plate name powered) = name_at-short name
name-short RedstoneBlock = lit≤ tt
name-short (Lamp lit) = lit≤ tt
name-short (Trapdoor facing top powered) = lit≤ tt
name-short (Container name) = name_at-short name
name-short (Composter level) = lit≤ tt
name-short (Cauldron water level) = cauldron-short water
name-short (Cake bites) = lit≤ tt
name-short (Weighted name power) = name_at-short name
name-short (Note powered) = lit≤ tt

abbrev AllShort : List Property → Type 0
AllShort [] = ⊤
AllShort (p ∷ ps) = Short p.key × Short p.value × AllShort ps

after-length : (ps : List Property) → AllShort ps → length (after ps) ≤ 1 + 200 * length ps
after-length [] h = lit≤ tt
after-length (p ∷ ps) h =
    let rest : length (after ps) ≤ 1 + 200 * length ps = after-length ps h.2 in
    omega (arith, h.0, h.1, length-append p.key (61 ∷ (p.value ++ after ps)), length-append p.value (after ps))

bracketed-length : (ps : List Property) → AllShort ps → length (bracketed ps) ≤ 1 + 200 * length ps
bracketed-length [] h = lit≤ tt
bracketed-length (p ∷ ps) h =
    let rest : length (after ps) ≤ 1 + 200 * length ps = after-length ps h.2 in
    omega (arith, h.0, h.1, length-append p.key (61 ∷ (p.value ++ after ps)), length-append p.value (after ps))

kept-short : (block : Block) → AllShort (kept block)
kept-short Air = tt
kept-short (Inert name) = tt
kept-short (Slab name half) = (lit≤ tt, slab-short half, tt)
kept-short (Wire north east south west power) = (lit≤ tt, wire-short east, (lit≤ tt, wire-short north, (lit≤ tt, wire-short south, (lit≤ tt, wire-short west, (lit≤ tt, number-short power, tt)))))
kept-short (Torch lit) = (lit≤ tt, flag-short lit, tt)
kept-short (WallTorch facing lit) = (lit≤ tt, side-short facing, (lit≤ tt, flag-short lit, tt))
kept-short (Repeater delay facing powered) = (lit≤ tt, number-short delay, (lit≤ tt, side-short facing, (lit≤ tt, flag-short powered, tt)))
kept-short (Comparator facing subtract) = (lit≤ tt, side-short facing, (lit≤ tt, mode-short subtract, tt))
kept-short (Lever face facing powered) = (lit≤ tt, face-short face, (lit≤ tt, side-short facing, (lit≤ tt, flag-short powered, tt)))
kept-short (Button name face facing powered) = (lit≤ tt, face-short face, (lit≤ tt, side-short facing, (lit≤ tt, flag-short powered, tt)))
kept-short (Plate name powered) = (lit≤ tt, flag-short powered, tt)
kept-short RedstoneBlock = tt
kept-short (Lamp lit) = (lit≤ tt, flag-short lit, tt)
kept-short (Trapdoor facing top powered) = (lit≤ tt, side-short facing, (lit≤ tt, half-short top, (lit≤ tt, flag-short powered, tt)))
kept-short (Container name) = tt
kept-short (Composter level) = (lit≤ tt, number-short level, tt)
kept-short (Cauldron water level) = (lit≤ tt, number-short level, tt)
kept-short (Cake bites) = (lit≤ tt, number-short bites, tt)
kept-short (Weighted name power) = (lit≤ tt, number-short power, tt)
kept-short (Note powered) = (lit≤ tt, flag-short powered, tt)

kept-few : (block : Block) → length (kept block) ≤ 5
kept-few Air = lit≤ tt
kept-few (Inert name) = lit≤ tt
kept-few (Slab name half) = lit≤ tt
kept-few (Wire north east south west power) = lit≤ tt
kept-few (Torch lit) = lit≤ tt
kept-few (WallTorch facing lit) = lit≤ tt
kept-few (Repeater delay facing powered) = lit≤ tt
kept-few (Comparator facing subtract) = lit≤ tt
kept-few (Lever face facing powered) = lit≤ tt
kept-few (Button name face facing powered) = lit≤ tt
kept-few (Plate name powered) = lit≤ tt
kept-few RedstoneBlock = lit≤ tt
kept-few (Lamp lit) = lit≤ tt
kept-few (Trapdoor facing top powered) = lit≤ tt
kept-few (Container name) = lit≤ tt
kept-few (Composter level) = lit≤ tt
kept-few (Cauldron water level) = lit≤ tt
kept-few (Cake bites) = lit≤ tt
kept-few (Weighted name power) = lit≤ tt
kept-few (Note powered) = lit≤ tt

pub text-length : (block : Block) → length (state_text block) < 2 ^ 16
unfolding state_text
text-length block =
    omega (
      arith,
      length-append namespace (name_of block ++ bracketed (kept block)),
      length-append (name_of block) (bracketed (kept block)),
      name-short block,
      bracketed-length (kept block) (kept-short block),
      kept-few block,
    )
