-- A listed block's code gives the block back.
use Rattle.std.proofs.Common.{◌≡◌, ℕ, ◌+◌, ◌*◌, ◌/◌, ◌%◌, ◌<◌, ◌≤◌, Option, None, Bool, true, false, ◌&&◌, refl, ap, ◌∙◌, arith, inl, inr}
use Rattle.std.specs.Prelude.{nat_lt, ◌==◌}
use Rattle.std.specs.Option.{option_map}
use Rattle.std.proofs.lemmas.Bool.{and_parts, cases_lt}
use Rattle.std.proofs.lemmas.Bool.Decides.{nat_tests}
use Rattle.std.proofs.lemmas.Option.{slice_get_past}
use Rattle.block_table.specs.declared.Side.{Side}
use Rattle.block_table.specs.declared.Side.TheVariants.{Down, Up, North, South, West, East}
use Rattle.block_table.specs.declared.Face.{Face}
use Rattle.block_table.specs.declared.Face.TheVariants.{Floor, Wall, Ceiling}
use Rattle.block_table.specs.declared.WireSide.{WireSide}
use Rattle.block_table.specs.declared.WireSide.TheVariants.{Absent, Side as Sideways, Up as Upwards}
use Rattle.block_table.specs.declared.SlabHalf.{SlabHalf}
use Rattle.block_table.specs.declared.SlabHalf.TheVariants.{Top, Bottom, Double}
use Rattle.block_table.specs.declared.Block.{Block}
use Rattle.block_table.specs.declared.Block.TheVariants.{Air, Inert, Slab, Wire, Torch, WallTorch, Repeater, Comparator, Lever, Button, Plate, RedstoneBlock, Lamp, Trapdoor, Container, Composter, Cauldron, Cake, Weighted, Note}
use Rattle.block_table.specs.Facts.{is_slab}
use Rattle.block_table.specs.Table.{table, kind_at}
use Rattle.block_table.specs.BlockText.{face_at, facing_at, wire_side_at, slab_half_at}
use Rattle.block_table.specs.WrittenText.{is_listed, is_horizontal, is_inert, is_button, is_plate, is_container, is_weighted}
use Rattle.packed_block.specs.Packed.{packed, unpacked, unpacked_by, flag_code, facing_code, face_code, wire_side_code, slab_half_code}

-- Numbers that are listed are small.

kind_past : (name : ℕ) → 308 ≤ name → kind_at name ≡ None
unfolding kind_at table
kind_past name past = ap (λ row. option_map (λ r. r.kind) row) (slice_get_past table name past)

name_small : {K : Type 0} (test : Option K → Bool) (kinds : ℕ → Option K) → ((name : ℕ) → 308 ≤ name → kinds name ≡ None) → test None ≡ false → (name : ℕ) → test (kinds name) ≡ true → name < 512
name_small test kinds past none name h = elim (cases_lt name 308) [
  | inl below ↦ omega arith
  | inr above ↦ let other : test (kinds name) ≡ false = ap test (past name above) ∙ none in absurd (cc)
]

below : (a b : ℕ) → nat_lt a b ≡ true → a < b
below a b h = grind (arith, nat_tests)

less_test : (a b : ℕ) → a < b → nat_lt a b ≡ true
less_test a b h = grind (arith, nat_tests)

not_less_test : (a b : ℕ) → b ≤ a → nat_lt a b ≡ false
not_less_test a b h = grind (arith, nat_tests)

-- Codes of parts, and back

flag_small : (flag : Bool) → flag_code flag < 2
flag_small false = omega arith
flag_small true = omega arith

facing_small : (facing : Side) → facing_code facing < 4
facing_small Down = omega arith
facing_small Up = omega arith
facing_small North = omega arith
facing_small South = omega arith
facing_small West = omega arith
facing_small East = omega arith

face_small : (face : Face) → face_code face < 3
face_small Wall = omega arith
face_small Floor = omega arith
face_small Ceiling = omega arith

wire_side_small : (side : WireSide) → wire_side_code side < 3
wire_side_small Absent = omega arith
wire_side_small Sideways = omega arith
wire_side_small Upwards = omega arith

slab_half_small : (half : SlabHalf) → slab_half_code half < 3
slab_half_small Bottom = omega arith
slab_half_small Top = omega arith
slab_half_small Double = omega arith

flag_back : (n : ℕ) (flag : Bool) → n ≡ flag_code flag → (n == 1) ≡ flag
flag_back n false e = ap (λ m. m == 1) e
flag_back n true e = ap (λ m. m == 1) e

facing_back : (n : ℕ) (facing : Side) → is_horizontal facing ≡ true → n ≡ facing_code facing → facing_at n ≡ facing
facing_back n Down h e = absurd (cc)
facing_back n Up h e = absurd (cc)
facing_back n North h e = ap facing_at e
facing_back n South h e = ap facing_at e
facing_back n West h e = ap facing_at e
facing_back n East h e = ap facing_at e

face_back : (n : ℕ) (face : Face) → n ≡ face_code face → face_at n ≡ face
face_back n Wall e = ap face_at e
face_back n Floor e = ap face_at e
face_back n Ceiling e = ap face_at e

wire_side_back : (n : ℕ) (side : WireSide) → n ≡ wire_side_code side → wire_side_at n ≡ side
wire_side_back n Absent e = ap wire_side_at e
wire_side_back n Sideways e = ap wire_side_at e
wire_side_back n Upwards e = ap wire_side_at e

slab_half_back : (n : ℕ) (half : SlabHalf) → n ≡ slab_half_code half → slab_half_at n ≡ half
slab_half_back n Bottom e = ap slab_half_at e
slab_half_back n Top e = ap slab_half_at e
slab_half_back n Double e = ap slab_half_at e

-- Codes of blocks, and back

by_tag : (code tag : ℕ) → code / 2048 ≡ tag → unpacked code ≡ unpacked_by tag code
unfolding unpacked
by_tag code tag e = ap (λ t. unpacked_by t code) e

inert : (code : ℕ) (name : ℕ) → name < 512 → code ≡ 2048 + name % 512 → unpacked code ≡ Inert name
unfolding unpacked_by
inert code name few e =
    let is_name : code % 512 ≡ name = omega arith in
    by_tag code 1 (omega arith) ∙ rw is_name refl

container : (code : ℕ) (name : ℕ) → name < 512 → code ≡ 4096 + name % 512 → unpacked code ≡ Container name
unfolding unpacked_by
container code name few e =
    let is_name : code % 512 ≡ name = omega arith in
    by_tag code 2 (omega arith) ∙ rw is_name refl

slab : (code : ℕ) (name : ℕ) (half : SlabHalf) → name < 512 → code ≡ 6144 + name % 512 * 4 + slab_half_code half → unpacked code ≡ Slab name half
unfolding unpacked_by
slab code name half few e =
    let small_0 = slab_half_small half in
    let is_name : code / 4 % 512 ≡ name = omega arith in
    let is_half : slab_half_at (code % 4) ≡ half = slab_half_back (code % 4) half (omega arith) in
    by_tag code 3 (omega arith) ∙ rw (is_name, is_half) refl

plate : (code : ℕ) (name : ℕ) (powered : Bool) → name < 512 → code ≡ 8192 + name % 512 * 2 + flag_code powered → unpacked code ≡ Plate name powered
unfolding unpacked_by
plate code name powered few e =
    let small_0 = flag_small powered in
    let is_name : code / 2 % 512 ≡ name = omega arith in
    let is_powered : (code % 2 == 1) ≡ powered = flag_back (code % 2) powered (omega arith) in
    by_tag code 4 (omega arith) ∙ rw (is_name, is_powered) refl

torch : (code : ℕ) (lit : Bool) → code ≡ 10240 + flag_code lit → unpacked code ≡ Torch lit
unfolding unpacked_by
torch code lit e =
    let small_0 = flag_small lit in
    let is_lit : (code % 2 == 1) ≡ lit = flag_back (code % 2) lit (omega arith) in
    by_tag code 5 (omega arith) ∙ rw is_lit refl

wall_torch : (code : ℕ) (facing : Side) (lit : Bool) → is_horizontal facing ≡ true → code ≡ 12288 + facing_code facing * 2 + flag_code lit → unpacked code ≡ WallTorch facing lit
unfolding unpacked_by
wall_torch code facing lit flat e =
    let small_0 = facing_small facing in
    let small_1 = flag_small lit in
    let is_facing : facing_at (code / 2 % 4) ≡ facing = facing_back (code / 2 % 4) facing flat (omega arith) in
    let is_lit : (code % 2 == 1) ≡ lit = flag_back (code % 2) lit (omega arith) in
    by_tag code 6 (omega arith) ∙ rw (is_facing, is_lit) refl

repeater : (code : ℕ) (delay : ℕ) (facing : Side) (powered : Bool) → delay < 5 → is_horizontal facing ≡ true → code ≡ 14336 + delay % 8 * 8 + facing_code facing * 2 + flag_code powered → unpacked code ≡ Repeater delay facing powered
unfolding unpacked_by
repeater code delay facing powered few flat e =
    let small_0 = facing_small facing in
    let small_1 = flag_small powered in
    let is_delay : code / 8 % 8 ≡ delay = omega arith in
    let is_facing : facing_at (code / 2 % 4) ≡ facing = facing_back (code / 2 % 4) facing flat (omega arith) in
    let is_powered : (code % 2 == 1) ≡ powered = flag_back (code % 2) powered (omega arith) in
    by_tag code 7 (omega arith) ∙ rw (is_delay, is_facing, is_powered) refl

comparator : (code : ℕ) (facing : Side) (subtract : Bool) → is_horizontal facing ≡ true → code ≡ 16384 + facing_code facing * 2 + flag_code subtract → unpacked code ≡ Comparator facing subtract
unfolding unpacked_by
comparator code facing subtract flat e =
    let small_0 = facing_small facing in
    let small_1 = flag_small subtract in
    let is_facing : facing_at (code / 2 % 4) ≡ facing = facing_back (code / 2 % 4) facing flat (omega arith) in
    let is_subtract : (code % 2 == 1) ≡ subtract = flag_back (code % 2) subtract (omega arith) in
    by_tag code 8 (omega arith) ∙ rw (is_facing, is_subtract) refl

lever : (code : ℕ) (face : Face) (facing : Side) (powered : Bool) → is_horizontal facing ≡ true → code ≡ 18432 + face_code face * 8 + facing_code facing * 2 + flag_code powered → unpacked code ≡ Lever face facing powered
unfolding unpacked_by
lever code face facing powered flat e =
    let small_0 = face_small face in
    let small_1 = facing_small facing in
    let small_2 = flag_small powered in
    let is_face : face_at (code / 8 % 4) ≡ face = face_back (code / 8 % 4) face (omega arith) in
    let is_facing : facing_at (code / 2 % 4) ≡ facing = facing_back (code / 2 % 4) facing flat (omega arith) in
    let is_powered : (code % 2 == 1) ≡ powered = flag_back (code % 2) powered (omega arith) in
    by_tag code 9 (omega arith) ∙ rw (is_face, is_facing, is_powered) refl

lamp : (code : ℕ) (lit : Bool) → code ≡ 22528 + flag_code lit → unpacked code ≡ Lamp lit
unfolding unpacked_by
lamp code lit e =
    let small_0 = flag_small lit in
    let is_lit : (code % 2 == 1) ≡ lit = flag_back (code % 2) lit (omega arith) in
    by_tag code 11 (omega arith) ∙ rw is_lit refl

trapdoor : (code : ℕ) (facing : Side) (top powered : Bool) → is_horizontal facing ≡ true → code ≡ 24576 + flag_code top * 8 + facing_code facing * 2 + flag_code powered → unpacked code ≡ Trapdoor facing top powered
unfolding unpacked_by
trapdoor code facing top powered flat e =
    let small_0 = facing_small facing in
    let small_1 = flag_small top in
    let small_2 = flag_small powered in
    let is_facing : facing_at (code / 2 % 4) ≡ facing = facing_back (code / 2 % 4) facing flat (omega arith) in
    let is_top : (code / 8 % 2 == 1) ≡ top = flag_back (code / 8 % 2) top (omega arith) in
    let is_powered : (code % 2 == 1) ≡ powered = flag_back (code % 2) powered (omega arith) in
    by_tag code 12 (omega arith) ∙ rw (is_facing, is_top, is_powered) refl

composter : (code : ℕ) (level : ℕ) → level < 16 → code ≡ 26624 + level % 16 → unpacked code ≡ Composter level
unfolding unpacked_by
composter code level few e =
    let is_level : code % 16 ≡ level = omega arith in
    by_tag code 13 (omega arith) ∙ rw is_level refl

cauldron : (code : ℕ) (water : Bool) (level : ℕ) → level < 16 → code ≡ 28672 + level % 16 * 2 + flag_code water → unpacked code ≡ Cauldron water level
unfolding unpacked_by
cauldron code water level few e =
    let small_0 = flag_small water in
    let is_water : (code % 2 == 1) ≡ water = flag_back (code % 2) water (omega arith) in
    let is_level : code / 2 % 16 ≡ level = omega arith in
    by_tag code 14 (omega arith) ∙ rw (is_water, is_level) refl

cake : (code : ℕ) (bites : ℕ) → bites < 16 → code ≡ 30720 + bites % 16 → unpacked code ≡ Cake bites
unfolding unpacked_by
cake code bites few e =
    let is_bites : code % 16 ≡ bites = omega arith in
    by_tag code 15 (omega arith) ∙ rw is_bites refl

note : (code : ℕ) (powered : Bool) → code ≡ 32768 + flag_code powered → unpacked code ≡ Note powered
unfolding unpacked_by
note code powered e =
    let small_0 = flag_small powered in
    let is_powered : (code % 2 == 1) ≡ powered = flag_back (code % 2) powered (omega arith) in
    by_tag code 16 (omega arith) ∙ rw is_powered refl

wire : (code : ℕ) (north east south west : WireSide) (power : ℕ) → power < 16 → code ≡ 36864 + wire_side_code north * 1024 + wire_side_code east * 256 + wire_side_code south * 64 + wire_side_code west * 16 + power % 16 → unpacked code ≡ Wire north east south west power
unfolding unpacked_by
wire code north east south west power few e =
    let small_0 = wire_side_small north in
    let small_1 = wire_side_small east in
    let small_2 = wire_side_small south in
    let small_3 = wire_side_small west in
    let is_north : wire_side_at (code / 1024 % 4) ≡ north = wire_side_back (code / 1024 % 4) north (omega arith) in
    let is_east : wire_side_at (code / 256 % 4) ≡ east = wire_side_back (code / 256 % 4) east (omega arith) in
    let is_south : wire_side_at (code / 64 % 4) ≡ south = wire_side_back (code / 64 % 4) south (omega arith) in
    let is_west : wire_side_at (code / 16 % 4) ≡ west = wire_side_back (code / 16 % 4) west (omega arith) in
    let is_power : code % 16 ≡ power = omega arith in
    by_tag code (code / 2048) refl ∙ rw (not_less_test 23 (code / 2048) (omega arith), not_less_test 19 (code / 2048) (omega arith), less_test 16 (code / 2048) (omega arith), is_north, is_east, is_south, is_west, is_power) refl

weighted : (code : ℕ) (name power : ℕ) → name < 512 → power < 16 → code ≡ 40960 + name % 512 * 16 + power % 16 → unpacked code ≡ Weighted name power
unfolding unpacked_by
weighted code name power few low e =
    let is_name : code / 16 % 512 ≡ name = omega arith in
    let is_power : code % 16 ≡ power = omega arith in
    by_tag code (code / 2048) refl ∙ rw (not_less_test 23 (code / 2048) (omega arith), less_test 19 (code / 2048) (omega arith), is_name, is_power) refl

button : (code : ℕ) (name : ℕ) (face : Face) (facing : Side) (powered : Bool) → name < 512 → is_horizontal facing ≡ true → code ≡ 49152 + name % 512 * 32 + face_code face * 8 + facing_code facing * 2 + flag_code powered → unpacked code ≡ Button name face facing powered
unfolding unpacked_by
button code name face facing powered few flat e =
    let small_0 = face_small face in
    let small_1 = facing_small facing in
    let small_2 = flag_small powered in
    let is_name : code / 32 % 512 ≡ name = omega arith in
    let is_face : face_at (code / 8 % 4) ≡ face = face_back (code / 8 % 4) face (omega arith) in
    let is_facing : facing_at (code / 2 % 4) ≡ facing = facing_back (code / 2 % 4) facing flat (omega arith) in
    let is_powered : (code % 2 == 1) ≡ powered = flag_back (code % 2) powered (omega arith) in
    by_tag code (code / 2048) refl ∙ rw (less_test 23 (code / 2048) (omega arith), is_name, is_face, is_facing, is_powered) refl

pub comes_back : (block : Block) → is_listed block ≡ true → unpacked (packed block) ≡ block
unfolding packed unpacked unpacked_by
comes_back Air h = refl
comes_back (Inert name) h = inert _ name (name_small is_inert kind_at kind_past refl name h) refl
comes_back (Container name) h = container _ name (name_small is_container kind_at kind_past refl name h) refl
comes_back (Slab name half) h = slab _ name half (name_small is_slab kind_at kind_past refl name h) refl
comes_back (Plate name powered) h = plate _ name powered (name_small is_plate kind_at kind_past refl name h) refl
comes_back (Torch lit) h = torch _ lit refl
comes_back (WallTorch facing lit) h = wall_torch _ facing lit h refl
comes_back (Repeater delay facing powered) h =
    let parts = and_parts (nat_lt 0 delay && nat_lt delay 5) (is_horizontal facing) h in
    repeater _ delay facing powered (below delay 5 (and_parts (nat_lt 0 delay) (nat_lt delay 5) parts.0).1) parts.1 refl
comes_back (Comparator facing subtract) h = comparator _ facing subtract h refl
comes_back (Lever face facing powered) h = lever _ face facing powered h refl
comes_back RedstoneBlock h = refl
comes_back (Lamp lit) h = lamp _ lit refl
comes_back (Trapdoor facing top powered) h = trapdoor _ facing top powered h refl
comes_back (Composter level) h = let few = below level 9 h in composter _ level (omega arith) refl
comes_back (Cauldron true level) h = let few = below level 4 (and_parts (nat_lt 0 level) (nat_lt level 4) h).1 in cauldron _ true level (omega arith) refl
comes_back (Cauldron false level) h = let few = below level 4 h in cauldron _ false level (omega arith) refl
comes_back (Cake bites) h = let few = below bites 7 h in cake _ bites (omega arith) refl
comes_back (Note powered) h = note _ powered refl
comes_back (Wire north east south west power) h = wire _ north east south west power (below power 16 h) refl
comes_back (Weighted name power) h =
    let parts = and_parts (is_weighted (kind_at name)) (nat_lt power 16) h in
    weighted _ name power (name_small is_weighted kind_at kind_past refl name parts.0) (below power 16 parts.1) refl
comes_back (Button name face facing powered) h =
    let parts = and_parts (is_button (kind_at name)) (is_horizontal facing) h in
    button _ name face facing powered (name_small is_button kind_at kind_past refl name parts.0) parts.1 refl
