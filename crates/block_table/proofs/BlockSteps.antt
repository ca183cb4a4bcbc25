-- A block is read back from its text.
use Rattle.std.proofs.Common.{◌≡◌, ℕ, zero, suc, ◌+◌, ◌<◌, ◌≤◌, List, [], ◌∷◌, length, Option, Some, None, Bool, true, false, ◌&&◌, refl, ap, ◌∙◌, inl, inr, arith}
use Rattle.std.specs.Prelude.{◌==◌, nat_eq, nat_lt, option_and_then, codes}
use Rattle.std.specs.Option.{option_map, option_map_or}
use Rattle.std.specs.List.{list_all, range_with_len}
use Rattle.std.proofs.lemmas.Option.{slice_get_past}
use Rattle.std.proofs.lemmas.Bool.{cases_Bool}
use Rattle.std.proofs.lemmas.Bool.Decides.{nat_tests}
use Rattle.block_table.specs.declared.Side.{Side}
use Rattle.block_table.specs.declared.Side.TheVariants.{Down, Up, North, South, West, East}
use Rattle.block_table.specs.declared.Face.{Face}
use Rattle.block_table.specs.declared.Face.TheVariants.{Floor, Wall, Ceiling}
use Rattle.block_table.specs.declared.WireSide.{WireSide}
use Rattle.block_table.specs.declared.WireSide.TheVariants.{Absent, Side as Sideways, Up as Upwards}
use Rattle.block_table.specs.declared.SlabHalf.{SlabHalf}
use Rattle.block_table.specs.declared.SlabHalf.TheVariants.{Top, Bottom, Double}
use Rattle.block_table.specs.declared.Block.{Block}
use Rattle.block_table.specs.declared.Block.TheVariants.{Air, Inert, Slab, Wire, Torch, WallTorch, Repeater, Comparator, Lever, Button, Plate, RedstoneBlock, Lamp, Trapdoor, Container, Composter, Cauldron, Cake, Weighted, Note}
use Rattle.block_table.specs.declared.names.Kind.{Kind}
use Rattle.block_table.specs.declared.names.Kind.TheVariants.{Air as AirName, Wire as WireName, Torch as TorchName, WallTorch as WallTorchName, Repeater as RepeaterName, Comparator as ComparatorName, Lever as LeverName, Button as ButtonName, Plate as PlateName, RedstoneBlock as RedstoneBlockName, Lamp as LampName, Trapdoor as TrapdoorName, Container as ContainerName, Composter as ComposterName, Cauldron as CauldronName, Cake as CakeName, Inert as InertName, Slab as SlabName, Weighted as WeightedName, Note as NoteName}
use Rattle.block_table.specs.StateText.{Property, place_in, all_some, last_or, values_of}
use Rattle.block_table.specs.Table.{table, number_of, kind_at, name_at}
use Rattle.block_table.specs.BlockText.{facing_of, face_of, wire_side_of, slab_half_of, off_or_on, on_or_off, subtracts, is_top, numbers_from, count_in, count_of, wire_of, torch_of, wall_torch_of, repeater_of, comparator_of, lever_of, button_of, plate_of, lamp_of, trapdoor_of, composter_of, cauldron_of, cake_of, slab_of, weighted_of, note_of, block_with, block_numbered, block_named, block_of}
use Rattle.block_table.specs.Facts.{is_slab}
use Rattle.block_table.specs.WrittenText.{side_text, face_text, wire_side_text, slab_half_text, flag_text, mode_text, half_text, number_text, kept, name_of, state_text, is_horizontal, is_inert, is_button, is_plate, is_container, is_weighted, is_listed}
use Rattle.block_table.proofs.TextSteps.{is_plain, is_word, is_worded, left_true, right_true, word-plain, state-back}

untrue : {P : Type 0} → false ≡ true → P
untrue h = absurd (cc)

all_between : (p : ℕ → Bool) (a len n : ℕ) → list_all p (range_with_len a len) ≡ true → a ≤ n → n < a + len → p n ≡ true
all_between p a zero n t l h = absurd (omega arith)
all_between p a (suc len) n t l h = elim (cases_Bool (n == a)) [
  | inl e ↦ (let same : n ≡ a = grind (arith, nat_tests, e) in rw same (left_true (p a) (list_all p (range_with_len (a + 1) len)) t))
  | inr e ↦ all_between p (a + 1) len n (right_true (p a) (list_all p (range_with_len (a + 1) len)) t) (grind (arith, nat_tests, e)) (omega arith)
]

less : (a b : ℕ) → nat_lt a b ≡ true → a < b
less a b h = grind (arith, nat_tests, h)

-- values

face_back : (ps : List Property) (face : Face) → values_of (codes "face") ps ≡ face_text face ∷ [] → face_of ps ≡ Some face
unfolding face_of
face_back ps Floor e = rw e refl
face_back ps Wall e = rw e refl
face_back ps Ceiling e = rw e refl

facing_back : (ps : List Property) (side : Side) → is_horizontal side ≡ true → values_of (codes "facing") ps ≡ side_text side ∷ [] → facing_of ps ≡ Some side
unfolding facing_of
facing_back ps Down h e = untrue h
facing_back ps Up h e = untrue h
facing_back ps North h e = rw e refl
facing_back ps South h e = rw e refl
facing_back ps West h e = rw e refl
facing_back ps East h e = rw e refl

wire_side_back : (key : List ℕ) (ps : List Property) (side : WireSide) → values_of key ps ≡ wire_side_text side ∷ [] → wire_side_of key ps ≡ Some side
unfolding wire_side_of
wire_side_back key ps Absent e = rw e refl
wire_side_back key ps Sideways e = rw e refl
wire_side_back key ps Upwards e = rw e refl

slab_half_back : (ps : List Property) (half : SlabHalf) → values_of (codes "type") ps ≡ slab_half_text half ∷ [] → slab_half_of ps ≡ Some half
unfolding slab_half_of
slab_half_back ps Top e = rw e refl
slab_half_back ps Bottom e = rw e refl
slab_half_back ps Double e = rw e refl

off_back : (key : List ℕ) (ps : List Property) (flag : Bool) → values_of key ps ≡ flag_text flag ∷ [] → off_or_on key ps ≡ Some flag
unfolding off_or_on
off_back key ps true e = rw e refl
off_back key ps false e = rw e refl

off_absent : (key : List ℕ) (ps : List Property) → values_of key ps ≡ [] → off_or_on key ps ≡ Some false
unfolding off_or_on
off_absent key ps e = rw e refl

on_back : (key : List ℕ) (ps : List Property) (flag : Bool) → values_of key ps ≡ flag_text flag ∷ [] → on_or_off key ps ≡ Some flag
unfolding on_or_off
on_back key ps true e = rw e refl
on_back key ps false e = rw e refl

mode_back : (ps : List Property) (subtract : Bool) → values_of (codes "mode") ps ≡ mode_text subtract ∷ [] → subtracts ps ≡ Some subtract
unfolding subtracts
mode_back ps true e = rw e refl
mode_back ps false e = rw e refl

half_back : (ps : List Property) (top : Bool) → values_of (codes "half") ps ≡ half_text top ∷ [] → is_top ps ≡ Some top
unfolding is_top
half_back ps true e = rw e refl
half_back ps false e = rw e refl

abbrev is_number_back : ℕ → ℕ → ℕ → Bool
is_number_back least greatest n = option_map_or (λ m. nat_eq (least + m) n) (place_in (numbers_from least greatest) (number_text n)) false

number_some : (least n : ℕ) (o : Option ℕ) → option_map_or (λ m. nat_eq (least + m) n) o false ≡ true → option_map (λ m. least + m) o ≡ Some n
number_some least n None h = untrue h
number_some least n (Some m) h = let same : least + m ≡ n = grind (arith, nat_tests, h) in ap (λ (k : ℕ). Some k) same

only_one : (o : Option ℕ) → option_map (last_or 0) (all_some (o ∷ [])) ≡ o
only_one None = refl
only_one (Some n) = refl

count_back : (least greatest len n : ℕ) (key : List ℕ) (ps : List Property) → list_all (is_number_back least greatest) (range_with_len least len) ≡ true → least ≤ n → n < least + len → values_of key ps ≡ number_text n ∷ [] → count_of least greatest key ps ≡ Some n
unfolding count_in
count_back least greatest len n key ps t l h e =
    rw e (ap (option_map (λ m. least + m)) (only_one (place_in (numbers_from least greatest) (number_text n)))
    ∙ number_some least n (place_in (numbers_from least greatest) (number_text n)) (all_between (is_number_back least greatest) least len n t l h))

count_to : (greatest n : ℕ) (key : List ℕ) (ps : List Property) → list_all (is_number_back 0 greatest) (range_with_len 0 (greatest + 1)) ≡ true → n < greatest + 1 → values_of key ps ≡ number_text n ∷ [] → count_of 0 greatest key ps ≡ Some n
count_to greatest n key ps t h e = count_back 0 greatest (greatest + 1) n key ps t (omega arith) (omega arith) e

to_15 : list_all (is_number_back 0 15) (range_with_len 0 16) ≡ true
unfolding number_text
to_15 = refl

to_8 : list_all (is_number_back 0 8) (range_with_len 0 9) ≡ true
unfolding number_text
to_8 = refl

to_6 : list_all (is_number_back 0 6) (range_with_len 0 7) ≡ true
unfolding number_text
to_6 = refl

to_3 : list_all (is_number_back 0 3) (range_with_len 0 4) ≡ true
unfolding number_text
to_3 = refl

from_1_to_3 : list_all (is_number_back 1 3) (range_with_len 1 3) ≡ true
unfolding number_text
from_1_to_3 = refl

from_1_to_4 : list_all (is_number_back 1 4) (range_with_len 1 4) ≡ true
unfolding number_text
from_1_to_4 = refl

-- texts of values are words

side_word : (side : Side) → is_word (side_text side) ≡ true
side_word Down = refl
side_word Up = refl
side_word North = refl
side_word South = refl
side_word West = refl
side_word East = refl

face_word : (face : Face) → is_word (face_text face) ≡ true
face_word Floor = refl
face_word Wall = refl
face_word Ceiling = refl

wire_side_word : (side : WireSide) → is_word (wire_side_text side) ≡ true
wire_side_word Absent = refl
wire_side_word Sideways = refl
wire_side_word Upwards = refl

slab_half_word : (half : SlabHalf) → is_word (slab_half_text half) ≡ true
slab_half_word Top = refl
slab_half_word Bottom = refl
slab_half_word Double = refl

flag_word : (flag : Bool) → is_word (flag_text flag) ≡ true
flag_word true = refl
flag_word false = refl

mode_word : (subtract : Bool) → is_word (mode_text subtract) ≡ true
mode_word true = refl
mode_word false = refl

half_word : (top : Bool) → is_word (half_text top) ≡ true
half_word true = refl
half_word false = refl

number_words : list_all (λ n. is_word (number_text n)) (range_with_len 0 16) ≡ true
unfolding number_text
number_words = refl

number_word : (n : ℕ) → n < 16 → is_word (number_text n) ≡ true
number_word n h = all_between (λ n. is_word (number_text n)) 0 16 n number_words (omega arith) (omega arith)

repeater_parts : (delay : ℕ) (facing : Side) → ((nat_lt 0 delay && nat_lt delay 5) && is_horizontal facing) ≡ true → (0 < delay) × (delay < 5) × (is_horizontal facing ≡ true)
repeater_parts delay facing h =
    let both = left_true (nat_lt 0 delay && nat_lt delay 5) (is_horizontal facing) h in
    (less 0 delay (left_true (nat_lt 0 delay) (nat_lt delay 5) both), less delay 5 (right_true (nat_lt 0 delay) (nat_lt delay 5) both), right_true (nat_lt 0 delay && nat_lt delay 5) (is_horizontal facing) h)

water_parts : (level : ℕ) → (nat_lt 0 level && nat_lt level 4) ≡ true → (0 < level) × (level < 4)
water_parts level h = (less 0 level (left_true (nat_lt 0 level) (nat_lt level 4) h), less level 4 (right_true (nat_lt 0 level) (nat_lt level 4) h))

kept_worded : (block : Block) → is_listed block ≡ true → list_all is_worded (kept block) ≡ true
kept_worded Air h = refl
kept_worded (Inert name) h = refl
kept_worded (Slab name half) h = rw (slab_half_word half) refl
kept_worded (Wire north east south west power) h =
    rw (wire_side_word east, wire_side_word north, wire_side_word south, wire_side_word west, number_word power (less power 16 h)) refl
kept_worded (Torch lit) h = rw (flag_word lit) refl
kept_worded (WallTorch facing lit) h = rw (side_word facing, flag_word lit) refl
kept_worded (Repeater delay facing powered) h =
    let p = repeater_parts delay facing h in
    let small : delay < 16 = omega (arith, p.1) in
    rw (number_word delay small, side_word facing, flag_word powered) refl
kept_worded (Comparator facing subtract) h = rw (side_word facing, mode_word subtract) refl
kept_worded (Lever face facing powered) h = rw (face_word face, side_word facing, flag_word powered) refl
kept_worded (Button name face facing powered) h = rw (face_word face, side_word facing, flag_word powered) refl
kept_worded (Plate name powered) h = rw (flag_word powered) refl
kept_worded RedstoneBlock h = refl
kept_worded (Lamp lit) h = rw (flag_word lit) refl
kept_worded (Trapdoor facing top powered) h = rw (side_word facing, half_word top, flag_word powered) refl
kept_worded (Container name) h = refl
kept_worded (Composter level) h = let small : level < 16 = omega (arith, less level 9 h) in rw (number_word level small) refl
kept_worded (Cauldron true level) h = let small : level < 16 = omega (arith, (water_parts level h).1) in rw (number_word level small) refl
kept_worded (Cauldron false level) h = let small : level < 16 = omega (arith, less level 4 h) in rw (number_word level small) refl
kept_worded (Cake bites) h = let small : bites < 16 = omega (arith, less bites 7 h) in rw (number_word bites small) refl
kept_worded (Weighted name power) h = rw (number_word power (less power 16 (right_true (is_weighted (kind_at name)) (nat_lt power 16) h))) refl
kept_worded (Note powered) h = rw (flag_word powered) refl

-- names

abbrev is_name_back : ℕ → Bool
is_name_back n = option_map_or (λ m. nat_eq m n) (number_of (name_at n)) false && is_word (name_at n)

-- no name stands twice, and each is a word
names_back : list_all is_name_back (range_with_len 0 308) ≡ true
unfolding table number_of name_at
names_back = refl

table_length : length table ≡ 308
unfolding table
table_length = refl

kind_below : (n : ℕ) (kind : Kind) → kind_at n ≡ Some kind → n < 308
unfolding kind_at
kind_below n kind h = elim (cases_Bool (nat_lt n 308)) [
  | inl e ↦ less n 308 e
  | inr e ↦ (let long : length table ≤ n = rw table_length (grind (arith, nat_tests, e)) in
      let k : ◌≡◌ {A = Option Kind} None (Some kind) = rw (slice_get_past table n long) at h in absurd (cc))
]

name_some : (n : ℕ) (o : Option ℕ) → option_map_or (λ m. nat_eq m n) o false ≡ true → o ≡ Some n
name_some n None h = untrue h
name_some n (Some m) h = let same : m ≡ n = grind (arith, nat_tests, h) in ap (λ (k : ℕ). Some k) same

name_back : (n : ℕ) (kind : Kind) → kind_at n ≡ Some kind → is_name_back n ≡ true
name_back n kind h = all_between is_name_back 0 308 n names_back (omega arith) (omega (arith, kind_below n kind h))

name_plain : (n : ℕ) (kind : Kind) → kind_at n ≡ Some kind → is_plain (name_at n) ≡ true
name_plain n kind h = word-plain (name_at n) (right_true (option_map_or (λ m. nat_eq m n) (number_of (name_at n)) false) (is_word (name_at n)) (name_back n kind h))

named : (name : List ℕ) (n : ℕ) (kind : Kind) (ps : List Property) → number_of name ≡ Some n → kind_at n ≡ Some kind → block_named name ps ≡ block_with kind n ps
unfolding block_named block_numbered
named name n kind ps e f = rw (e, f) refl

numbered : (n : ℕ) (kind : Kind) (ps : List Property) → kind_at n ≡ Some kind → block_named (name_at n) ps ≡ block_with kind n ps
numbered n kind ps h =
    named (name_at n) n kind ps (name_some n (number_of (name_at n)) (left_true (option_map_or (λ m. nat_eq m n) (number_of (name_at n)) false) (is_word (name_at n)) (name_back n kind h))) h

at_air : (number_of (codes "air") ≡ Some 0) × (kind_at 0 ≡ Some AirName)
unfolding table number_of kind_at
at_air = (refl, refl)

at_wire : (number_of (codes "redstone_wire") ≡ Some 3) × (kind_at 3 ≡ Some WireName)
unfolding table number_of kind_at
at_wire = (refl, refl)

at_torch : (number_of (codes "redstone_torch") ≡ Some 4) × (kind_at 4 ≡ Some TorchName)
unfolding table number_of kind_at
at_torch = (refl, refl)

at_wall_torch : (number_of (codes "redstone_wall_torch") ≡ Some 5) × (kind_at 5 ≡ Some WallTorchName)
unfolding table number_of kind_at
at_wall_torch = (refl, refl)

at_repeater : (number_of (codes "repeater") ≡ Some 6) × (kind_at 6 ≡ Some RepeaterName)
unfolding table number_of kind_at
at_repeater = (refl, refl)

at_comparator : (number_of (codes "comparator") ≡ Some 7) × (kind_at 7 ≡ Some ComparatorName)
unfolding table number_of kind_at
at_comparator = (refl, refl)

at_lever : (number_of (codes "lever") ≡ Some 8) × (kind_at 8 ≡ Some LeverName)
unfolding table number_of kind_at
at_lever = (refl, refl)

at_redstone_block : (number_of (codes "redstone_block") ≡ Some 21) × (kind_at 21 ≡ Some RedstoneBlockName)
unfolding table number_of kind_at
at_redstone_block = (refl, refl)

at_lamp : (number_of (codes "redstone_lamp") ≡ Some 22) × (kind_at 22 ≡ Some LampName)
unfolding table number_of kind_at
at_lamp = (refl, refl)

at_trapdoor : (number_of (codes "iron_trapdoor") ≡ Some 23) × (kind_at 23 ≡ Some TrapdoorName)
unfolding table number_of kind_at
at_trapdoor = (refl, refl)

at_composter : (number_of (codes "composter") ≡ Some 32) × (kind_at 32 ≡ Some ComposterName)
unfolding table number_of kind_at
at_composter = (refl, refl)

at_cauldron : (number_of (codes "cauldron") ≡ Some 33) × (kind_at 33 ≡ Some (CauldronName false))
unfolding table number_of kind_at
at_cauldron = (refl, refl)

at_water : (number_of (codes "water_cauldron") ≡ Some 34) × (kind_at 34 ≡ Some (CauldronName true))
unfolding table number_of kind_at
at_water = (refl, refl)

at_cake : (number_of (codes "cake") ≡ Some 35) × (kind_at 35 ≡ Some CakeName)
unfolding table number_of kind_at
at_cake = (refl, refl)

at_note : (number_of (codes "note_block") ≡ Some 86) × (kind_at 86 ≡ Some NoteName)
unfolding table number_of kind_at
at_note = (refl, refl)

slab_kind : (kind : Option Kind) → is_slab kind ≡ true → kind ≡ Some SlabName
slab_kind (Some SlabName) h = refl
slab_kind _ h = untrue h

button_kind : (kind : Option Kind) → is_button kind ≡ true → kind ≡ Some ButtonName
button_kind (Some ButtonName) h = refl
button_kind _ h = untrue h

plate_kind : (kind : Option Kind) → is_plate kind ≡ true → kind ≡ Some PlateName
plate_kind (Some PlateName) h = refl
plate_kind _ h = untrue h

weighted_kind : (kind : Option Kind) → is_weighted kind ≡ true → kind ≡ Some WeightedName
weighted_kind (Some WeightedName) h = refl
weighted_kind _ h = untrue h

inert_kind : (kind : Option Kind) → is_inert kind ≡ true → (solid : Bool) × (kind ≡ Some (InertName solid))
inert_kind (Some (InertName solid)) h = (solid, refl)
inert_kind _ h = untrue h

container_kind : (kind : Option Kind) → is_container kind ≡ true → (slots : ℕ) × ((solid : Bool) × (kind ≡ Some (ContainerName slots solid)))
container_kind (Some (ContainerName slots solid)) h = (slots, (solid, refl))
container_kind _ h = untrue h

wire_back : (north east south west : WireSide) (power : ℕ) → power < 16 → wire_of (kept (Wire north east south west power)) ≡ Some (Wire north east south west power)
unfolding wire_of
wire_back north east south west power h = let ps = kept (Wire north east south west power) in rw (wire_side_back (codes "east") ps east refl, wire_side_back (codes "north") ps north refl, wire_side_back (codes "south") ps south refl, wire_side_back (codes "west") ps west refl, count_to 15 power (codes "power") ps to_15 (omega arith) refl) refl

torch_back : (lit : Bool) → torch_of (kept (Torch lit)) ≡ Some (Torch lit)
unfolding torch_of
torch_back lit = let ps = kept (Torch lit) in rw (on_back (codes "lit") ps lit refl) refl

wall_torch_back : (facing : Side) (lit : Bool) → is_horizontal facing ≡ true → wall_torch_of (kept (WallTorch facing lit)) ≡ Some (WallTorch facing lit)
unfolding wall_torch_of
wall_torch_back facing lit h = let ps = kept (WallTorch facing lit) in rw (facing_back ps facing h refl, on_back (codes "lit") ps lit refl) refl

repeater_back : (delay : ℕ) (facing : Side) (powered : Bool) → 0 < delay → delay < 5 → is_horizontal facing ≡ true → repeater_of (kept (Repeater delay facing powered)) ≡ Some (Repeater delay facing powered)
unfolding repeater_of
repeater_back delay facing powered l g h = let ps = kept (Repeater delay facing powered) in rw (count_back 1 4 4 delay (codes "delay") ps from_1_to_4 l (omega arith) refl, facing_back ps facing h refl, off_back (codes "powered") ps powered refl, off_absent (codes "locked") ps refl) refl

comparator_back : (facing : Side) (subtract : Bool) → is_horizontal facing ≡ true → comparator_of (kept (Comparator facing subtract)) ≡ Some (Comparator facing subtract)
unfolding comparator_of
comparator_back facing subtract h = let ps = kept (Comparator facing subtract) in rw (facing_back ps facing h refl, mode_back ps subtract refl, off_absent (codes "powered") ps refl) refl

lever_back : (face : Face) (facing : Side) (powered : Bool) → is_horizontal facing ≡ true → lever_of (kept (Lever face facing powered)) ≡ Some (Lever face facing powered)
unfolding lever_of
lever_back face facing powered h = let ps = kept (Lever face facing powered) in rw (face_back ps face refl, facing_back ps facing h refl, off_back (codes "powered") ps powered refl) refl

button_back : (name : ℕ) (face : Face) (facing : Side) (powered : Bool) → is_horizontal facing ≡ true → button_of name (kept (Button name face facing powered)) ≡ Some (Button name face facing powered)
unfolding button_of
button_back name face facing powered h = let ps = kept (Button name face facing powered) in rw (face_back ps face refl, facing_back ps facing h refl, off_back (codes "powered") ps powered refl) refl

plate_back : (name : ℕ) (powered : Bool) → plate_of name (kept (Plate name powered)) ≡ Some (Plate name powered)
unfolding plate_of
plate_back name powered = let ps = kept (Plate name powered) in rw (off_back (codes "powered") ps powered refl) refl

lamp_back : (lit : Bool) → lamp_of (kept (Lamp lit)) ≡ Some (Lamp lit)
unfolding lamp_of
lamp_back lit = let ps = kept (Lamp lit) in rw (off_back (codes "lit") ps lit refl) refl

trapdoor_back : (facing : Side) (top powered : Bool) → is_horizontal facing ≡ true → trapdoor_of (kept (Trapdoor facing top powered)) ≡ Some (Trapdoor facing top powered)
unfolding trapdoor_of
trapdoor_back facing top powered h = let ps = kept (Trapdoor facing top powered) in rw (facing_back ps facing h refl, half_back ps top refl, off_back (codes "powered") ps powered refl, off_absent (codes "open") ps refl, off_absent (codes "waterlogged") ps refl) refl

composter_back : (n : ℕ) → n < 9 → composter_of (kept (Composter n)) ≡ Some (Composter n)
unfolding composter_of
composter_back n h = let ps = kept (Composter n) in rw (count_to 8 n (codes "level") ps to_8 (omega arith) refl) refl

cake_back : (n : ℕ) → n < 7 → cake_of (kept (Cake n)) ≡ Some (Cake n)
unfolding cake_of
cake_back n h = let ps = kept (Cake n) in rw (count_to 6 n (codes "bites") ps to_6 (omega arith) refl) refl

dry_back : (n : ℕ) → n < 4 → cauldron_of false (kept (Cauldron false n)) ≡ Some (Cauldron false n)
unfolding cauldron_of
dry_back n h = let ps = kept (Cauldron false n) in rw (count_to 3 n (codes "level") ps to_3 (omega arith) refl) refl

water_back : (n : ℕ) → 0 < n → n < 4 → cauldron_of true (kept (Cauldron true n)) ≡ Some (Cauldron true n)
unfolding cauldron_of
water_back n l h = let ps = kept (Cauldron true n) in rw (count_back 1 3 3 n (codes "level") ps from_1_to_3 l (omega arith) refl) refl

slab_back : (name : ℕ) (half : SlabHalf) → slab_of name (kept (Slab name half)) ≡ Some (Slab name half)
unfolding slab_of
slab_back name half = let ps = kept (Slab name half) in rw (slab_half_back ps half refl) refl

weighted_back : (name power : ℕ) → power < 16 → weighted_of name (kept (Weighted name power)) ≡ Some (Weighted name power)
unfolding weighted_of
weighted_back name power h = let ps = kept (Weighted name power) in rw (count_to 15 power (codes "power") ps to_15 (omega arith) refl) refl

note_back : (powered : Bool) → note_of (kept (Note powered)) ≡ Some (Note powered)
unfolding note_of
note_back powered = let ps = kept (Note powered) in rw (off_back (codes "powered") ps powered refl) refl

named_back : (block : Block) → is_listed block ≡ true → block_named (name_of block) (kept block) ≡ Some block
named_back (Air) h = named (codes "air") 0 AirName (kept (Air)) at_air.0 at_air.1
named_back (Inert name) h = let k = inert_kind (kind_at name) h in numbered name (InertName k.0) [] k.1
named_back (Slab name half) h = numbered name SlabName (kept (Slab name half)) (slab_kind (kind_at name) h) ∙ slab_back name half
named_back (Wire north east south west power) h = named (codes "redstone_wire") 3 WireName (kept (Wire north east south west power)) at_wire.0 at_wire.1 ∙ wire_back north east south west power (less power 16 h)
named_back (Torch lit) h = named (codes "redstone_torch") 4 TorchName (kept (Torch lit)) at_torch.0 at_torch.1 ∙ torch_back lit
named_back (WallTorch facing lit) h = named (codes "redstone_wall_torch") 5 WallTorchName (kept (WallTorch facing lit)) at_wall_torch.0 at_wall_torch.1 ∙ wall_torch_back facing lit h
named_back (Repeater delay facing powered) h = let p = repeater_parts delay facing h in named (codes "repeater") 6 RepeaterName (kept (Repeater delay facing powered)) at_repeater.0 at_repeater.1 ∙ repeater_back delay facing powered p.0 p.1 p.2
named_back (Comparator facing subtract) h = named (codes "comparator") 7 ComparatorName (kept (Comparator facing subtract)) at_comparator.0 at_comparator.1 ∙ comparator_back facing subtract h
named_back (Lever face facing powered) h = named (codes "lever") 8 LeverName (kept (Lever face facing powered)) at_lever.0 at_lever.1 ∙ lever_back face facing powered h
named_back (Button name face facing powered) h =
    numbered name ButtonName (kept (Button name face facing powered)) (button_kind (kind_at name) (left_true (is_button (kind_at name)) (is_horizontal facing) h))
    ∙ button_back name face facing powered (right_true (is_button (kind_at name)) (is_horizontal facing) h)
named_back (Plate name powered) h = numbered name PlateName (kept (Plate name powered)) (plate_kind (kind_at name) h) ∙ plate_back name powered
named_back (RedstoneBlock) h = named (codes "redstone_block") 21 RedstoneBlockName (kept (RedstoneBlock)) at_redstone_block.0 at_redstone_block.1
named_back (Lamp lit) h = named (codes "redstone_lamp") 22 LampName (kept (Lamp lit)) at_lamp.0 at_lamp.1 ∙ lamp_back lit
named_back (Trapdoor facing top powered) h = named (codes "iron_trapdoor") 23 TrapdoorName (kept (Trapdoor facing top powered)) at_trapdoor.0 at_trapdoor.1 ∙ trapdoor_back facing top powered h
named_back (Container name) h = let k = container_kind (kind_at name) h in numbered name (ContainerName k.0 k.1.0) [] k.1.1
named_back (Composter level) h = named (codes "composter") 32 ComposterName (kept (Composter level)) at_composter.0 at_composter.1 ∙ composter_back level (less level 9 h)
named_back (Cauldron true level) h = let p = water_parts level h in named (codes "water_cauldron") 34 (CauldronName true) (kept (Cauldron true level)) at_water.0 at_water.1 ∙ water_back level p.0 p.1
named_back (Cauldron false level) h = named (codes "cauldron") 33 (CauldronName false) (kept (Cauldron false level)) at_cauldron.0 at_cauldron.1 ∙ dry_back level (less level 4 h)
named_back (Cake bites) h = named (codes "cake") 35 CakeName (kept (Cake bites)) at_cake.0 at_cake.1 ∙ cake_back bites (less bites 7 h)
named_back (Weighted name power) h =
    numbered name WeightedName (kept (Weighted name power)) (weighted_kind (kind_at name) (left_true (is_weighted (kind_at name)) (nat_lt power 16) h))
    ∙ weighted_back name power (less power 16 (right_true (is_weighted (kind_at name)) (nat_lt power 16) h))
named_back (Note powered) h = named (codes "note_block") 86 NoteName (kept (Note powered)) at_note.0 at_note.1 ∙ note_back powered

name_of-plain : (block : Block) → is_listed block ≡ true → is_plain (name_of block) ≡ true
name_of-plain (Inert name) h = let k = inert_kind (kind_at name) h in name_plain name (InertName k.0) k.1
name_of-plain (Slab name half) h = name_plain name SlabName (slab_kind (kind_at name) h)
name_of-plain (Button name face facing powered) h = name_plain name ButtonName (button_kind (kind_at name) (left_true (is_button (kind_at name)) (is_horizontal facing) h))
name_of-plain (Plate name powered) h = name_plain name PlateName (plate_kind (kind_at name) h)
name_of-plain (Container name) h = let k = container_kind (kind_at name) h in name_plain name (ContainerName k.0 k.1.0) k.1.1
name_of-plain (Weighted name power) h = name_plain name WeightedName (weighted_kind (kind_at name) (left_true (is_weighted (kind_at name)) (nat_lt power 16) h))
name_of-plain (Cauldron true level) h = refl
name_of-plain (Cauldron false level) h = refl
name_of-plain _ h = refl

-- a block's text means the block
pub state_text-back : (block : Block) → is_listed block ≡ true → block_of (state_text block) ≡ Some block
unfolding block_of state_text
state_text-back block h =
    ap (option_and_then (λ s. block_named s.name s.properties)) (state-back (name_of block) (kept block) (name_of-plain block h) (kept_worded block h))
    ∙ named_back block h
