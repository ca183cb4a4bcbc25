-- What a text means is listed.
use Rattle.std.proofs.Common.{◌≡◌, ℕ, zero, suc, ◌+◌, ◌<◌, ◌≤◌, List, length, Option, Some, None, Bool, true, false, ◌&&◌, refl, sym, ◌∙◌, subst, arith}
use Rattle.std.specs.Prelude.{nat_lt, option_and_then, codes, IfSome, IsTrue}
use Rattle.std.specs.Option.{option_map}
use Rattle.std.proofs.lemmas.Bool.Decides.{nat_tests}
use Rattle.block_table.specs.declared.Side.{Side}
use Rattle.block_table.specs.declared.Face.{Face}
use Rattle.block_table.specs.declared.WireSide.{WireSide}
use Rattle.block_table.specs.declared.Block.{Block}
use Rattle.block_table.specs.declared.Block.TheVariants.{Air, Inert, Slab, Wire, Torch, WallTorch, Repeater, Comparator, Lever, Button, Plate, RedstoneBlock, Lamp, Trapdoor, Container, Composter, Cauldron, Cake, Weighted, Note}
use Rattle.block_table.specs.declared.names.Kind.{Kind}
use Rattle.block_table.specs.declared.names.Kind.TheVariants.{Air as AirName, Wire as WireName, Torch as TorchName, WallTorch as WallTorchName, Repeater as RepeaterName, Comparator as ComparatorName, Lever as LeverName, Button as ButtonName, Plate as PlateName, RedstoneBlock as RedstoneBlockName, Lamp as LampName, Trapdoor as TrapdoorName, Container as ContainerName, Composter as ComposterName, Cauldron as CauldronName, Cake as CakeName, Inert as InertName, Slab as SlabName, Weighted as WeightedName, Note as NoteName}
use Rattle.block_table.specs.StateText.{Property, StateText, chosen, state_of, without_namespace}
use Rattle.block_table.specs.Table.{number_of, kind_at}
use Rattle.block_table.specs.BlockText.{facings, facing_at, facing_of, face_of, slab_half_of, off_or_on, on_or_off, count_in, count_of, numbers_from, wire_with, wire_of, wire_side_of, torch_of, wall_torch_with, wall_torch_of, repeater_with, repeater_of, comparator_with, subtracts, comparator_of, lever_with, lever_of, button_with, button_of, plate_of, lamp_of, trapdoor_with, is_top, trapdoor_of, composter_of, cauldron_of, cake_of, slab_of, weighted_of, note_of, block_with, block_numbered, block_named, block_of}
use Rattle.block_table.specs.WrittenText.{is_horizontal, is_button, is_listed}
use Rattle.block_table.proofs.ChosenSteps.{chosen-below}

nothing : {P : Type 0} {A : Type 0} (a : A) → None ≡ Some a → P
nothing a h = absurd (cc)

moved : (a b : Block) → Some a ≡ Some b → is_listed a ≡ true → is_listed b ≡ true
moved a b h l = let same : a ≡ b = cc in subst (λ (block : Block). is_listed block ≡ true) same l

less_test : (a b : ℕ) → a < b → nat_lt a b ≡ true
less_test a b h = grind (arith, nat_tests)

facing_at-horizontal : (n : ℕ) → is_horizontal (facing_at n) ≡ true
facing_at-horizontal zero = refl
facing_at-horizontal (suc zero) = refl
facing_at-horizontal (suc (suc zero)) = refl
facing_at-horizontal (suc (suc (suc n))) = refl

facing_some : (o : Option ℕ) (side : Side) → option_map facing_at o ≡ Some side → is_horizontal side ≡ true
facing_some None side h = nothing side h
facing_some (Some n) side h = let k : Some (facing_at n) ≡ Some side = h in let same : facing_at n ≡ side = cc in subst (λ (s : Side). is_horizontal s ≡ true) same (facing_at-horizontal n)

facing_horizontal : (ps : List Property) (side : Side) → facing_of ps ≡ Some side → is_horizontal side ≡ true
unfolding facing_of
facing_horizontal ps side h = facing_some (chosen (codes "facing") facings ps) side h

count_some : (least len n : ℕ) (o : Option ℕ) → ((m : ℕ) → o ≡ Some m → m < len) → option_map (λ m. least + m) o ≡ Some n → (least ≤ n) × (n < least + len)
count_some least len n None below h = nothing n h
count_some least len n (Some m) below h =
    let k : Some (least + m) ≡ Some n = h in
    let same : least + m ≡ n = cc in
    let small : m < len = below m refl in
    (omega arith, omega arith)

count_within : (least : ℕ) (listed : List (List ℕ)) (key : List ℕ) (ps : List Property) (n : ℕ) → 0 < length listed → count_in least listed key ps ≡ Some n → (least ≤ n) × (n < least + length listed)
unfolding count_in
count_within least listed key ps n some h = count_some least (length listed) n (chosen key listed ps) (λ m e. chosen-below key listed ps m some e) h

power_within : (key : List ℕ) (ps : List Property) (n : ℕ) → count_of 0 15 key ps ≡ Some n → nat_lt n 16 ≡ true
power_within key ps n h = less_test n 16 (omega (arith, (count_within 0 (numbers_from 0 15) key ps n (omega arith) h).1))

wire_listed : (o₁ o₂ o₃ o₄ : Option WireSide) (o₅ : Option ℕ) (block : Block) → ((n : ℕ) → o₅ ≡ Some n → nat_lt n 16 ≡ true) → wire_with o₁ o₂ o₃ o₄ o₅ ≡ Some block → is_listed block ≡ true
wire_listed (Some east) (Some north) (Some south) (Some west) (Some power) block small h = moved (Wire north east south west power) block h (small power refl)
wire_listed _ _ _ _ _ block small h = nothing block h

wall_torch_listed : (o₁ : Option Side) (o₂ : Option Bool) (block : Block) → ((s : Side) → o₁ ≡ Some s → is_horizontal s ≡ true) → wall_torch_with o₁ o₂ ≡ Some block → is_listed block ≡ true
wall_torch_listed (Some facing) (Some lit) block flat h = moved (WallTorch facing lit) block h (flat facing refl)
wall_torch_listed _ _ block flat h = nothing block h

repeater_listed : (o₁ : Option ℕ) (o₂ : Option Side) (o₃ o₄ : Option Bool) (block : Block) → ((n : ℕ) → o₁ ≡ Some n → (nat_lt 0 n && nat_lt n 5) ≡ true) → ((s : Side) → o₂ ≡ Some s → is_horizontal s ≡ true) →
    repeater_with o₁ o₂ o₃ o₄ ≡ Some block → is_listed block ≡ true
repeater_listed (Some delay) (Some facing) (Some powered) (Some locked) block small flat h = moved (Repeater delay facing powered) block h (rw (small delay refl) (flat facing refl))
repeater_listed _ _ _ _ block small flat h = nothing block h

comparator_listed : (o₁ : Option Side) (o₂ o₃ : Option Bool) (block : Block) → ((s : Side) → o₁ ≡ Some s → is_horizontal s ≡ true) → comparator_with o₁ o₂ o₃ ≡ Some block → is_listed block ≡ true
comparator_listed (Some facing) (Some subtract) (Some powered) block flat h = moved (Comparator facing subtract) block h (flat facing refl)
comparator_listed _ _ _ block flat h = nothing block h

lever_listed : (o₁ : Option Face) (o₂ : Option Side) (o₃ : Option Bool) (block : Block) → ((s : Side) → o₂ ≡ Some s → is_horizontal s ≡ true) → lever_with o₁ o₂ o₃ ≡ Some block → is_listed block ≡ true
lever_listed (Some face) (Some facing) (Some powered) block flat h = moved (Lever face facing powered) block h (flat facing refl)
lever_listed _ _ _ block flat h = nothing block h

button_listed : (name : ℕ) (o₁ : Option Face) (o₂ : Option Side) (o₃ : Option Bool) (block : Block) → is_button (kind_at name) ≡ true → ((s : Side) → o₂ ≡ Some s → is_horizontal s ≡ true) → button_with name o₁ o₂ o₃ ≡ Some block → is_listed block ≡ true
button_listed name (Some face) (Some facing) (Some powered) block b flat h = moved (Button name face facing powered) block h (rw b (flat facing refl))
button_listed name _ _ _ block b flat h = nothing block h

trapdoor_listed : (o₁ : Option Side) (o₂ o₃ o₄ o₅ : Option Bool) (block : Block) → ((s : Side) → o₁ ≡ Some s → is_horizontal s ≡ true) → trapdoor_with o₁ o₂ o₃ o₄ o₅ ≡ Some block → is_listed block ≡ true
trapdoor_listed (Some facing) (Some top) (Some powered) (Some opened) (Some waterlogged) block flat h = moved (Trapdoor facing top powered) block h (flat facing refl)
trapdoor_listed _ _ _ _ _ block flat h = nothing block h

-- a block with one property
one_listed : {A : Type 0} (f : A → Block) (o : Option A) (block : Block) → ((a : A) → o ≡ Some a → is_listed (f a) ≡ true) → option_map f o ≡ Some block → is_listed block ≡ true
one_listed f None block l h = nothing block h
one_listed f (Some a) block l h = moved (f a) block h (l a refl)

repeater_within : (ps : List Property) (n : ℕ) → count_of 1 4 (codes "delay") ps ≡ Some n → (nat_lt 0 n && nat_lt n 5) ≡ true
repeater_within ps n h =
    let w = count_within 1 (numbers_from 1 4) (codes "delay") ps n (omega arith) h in
    rw (less_test 0 n (omega (arith, w.0)), less_test n 5 (omega (arith, w.1))) refl

water_within : (ps : List Property) (n : ℕ) → count_of 1 3 (codes "level") ps ≡ Some n → (nat_lt 0 n && nat_lt n 4) ≡ true
water_within ps n h =
    let w = count_within 1 (numbers_from 1 3) (codes "level") ps n (omega arith) h in
    rw (less_test 0 n (omega (arith, w.0)), less_test n 4 (omega (arith, w.1))) refl

with_listed : (kind : Kind) (n : ℕ) (ps : List Property) (block : Block) → kind_at n ≡ Some kind → block_with kind n ps ≡ Some block → is_listed block ≡ true
unfolding wire_of torch_of wall_torch_of repeater_of comparator_of lever_of button_of plate_of lamp_of trapdoor_of composter_of cauldron_of cake_of slab_of weighted_of note_of
with_listed AirName n ps block k h = moved Air block h refl
with_listed WireName n ps block k h =
    wire_listed (wire_side_of (codes "east") ps) (wire_side_of (codes "north") ps) (wire_side_of (codes "south") ps) (wire_side_of (codes "west") ps) (count_of 0 15 (codes "power") ps) block (power_within (codes "power") ps) h
with_listed TorchName n ps block k h = one_listed (λ lit. Torch lit) (on_or_off (codes "lit") ps) block (λ lit e. refl) h
with_listed WallTorchName n ps block k h = wall_torch_listed (facing_of ps) (on_or_off (codes "lit") ps) block (facing_horizontal ps) h
with_listed RepeaterName n ps block k h =
    repeater_listed (count_of 1 4 (codes "delay") ps) (facing_of ps) (off_or_on (codes "powered") ps) (off_or_on (codes "locked") ps) block (repeater_within ps) (facing_horizontal ps) h
with_listed ComparatorName n ps block k h = comparator_listed (facing_of ps) (subtracts ps) (off_or_on (codes "powered") ps) block (facing_horizontal ps) h
with_listed LeverName n ps block k h = lever_listed (face_of ps) (facing_of ps) (off_or_on (codes "powered") ps) block (facing_horizontal ps) h
with_listed ButtonName n ps block k h = button_listed n (face_of ps) (facing_of ps) (off_or_on (codes "powered") ps) block (rw k refl) (facing_horizontal ps) h
with_listed PlateName n ps block k h = one_listed (λ powered. Plate n powered) (off_or_on (codes "powered") ps) block (λ powered e. rw k refl) h
with_listed RedstoneBlockName n ps block k h = moved RedstoneBlock block h refl
with_listed LampName n ps block k h = one_listed (λ lit. Lamp lit) (off_or_on (codes "lit") ps) block (λ lit e. refl) h
with_listed TrapdoorName n ps block k h =
    trapdoor_listed (facing_of ps) (is_top ps) (off_or_on (codes "powered") ps) (off_or_on (codes "open") ps) (off_or_on (codes "waterlogged") ps) block (facing_horizontal ps) h
with_listed (ContainerName slots solid) n ps block k h = moved (Container n) block h (rw k refl)
with_listed ComposterName n ps block k h =
    one_listed (λ level. Composter level) (count_of 0 8 (codes "level") ps) block
    (λ level e. less_test level 9 (omega (arith, (count_within 0 (numbers_from 0 8) (codes "level") ps level (omega arith) e).1))) h
with_listed (CauldronName true) n ps block k h = one_listed (λ level. Cauldron true level) (count_of 1 3 (codes "level") ps) block (water_within ps) h
with_listed (CauldronName false) n ps block k h =
    one_listed (λ level. Cauldron false level) (count_of 0 3 (codes "level") ps) block
    (λ level e. less_test level 4 (omega (arith, (count_within 0 (numbers_from 0 3) (codes "level") ps level (omega arith) e).1))) h
with_listed CakeName n ps block k h =
    one_listed (λ bites. Cake bites) (count_of 0 6 (codes "bites") ps) block
    (λ bites e. less_test bites 7 (omega (arith, (count_within 0 (numbers_from 0 6) (codes "bites") ps bites (omega arith) e).1))) h
with_listed (InertName solid) n ps block k h = moved (Inert n) block h (rw k refl)
with_listed SlabName n ps block k h = one_listed (λ half. Slab n half) (slab_half_of ps) block (λ half e. rw k refl) h
with_listed WeightedName n ps block k h = one_listed (λ power. Weighted n power) (count_of 0 15 (codes "power") ps) block (λ power e. rw k (power_within (codes "power") ps power e)) h
with_listed NoteName n ps block k h = one_listed (λ powered. Note powered) (off_or_on (codes "powered") ps) block (λ powered e. refl) h

kind_listed : (n : ℕ) (ps : List Property) (block : Block) (o : Option Kind) → kind_at n ≡ o → option_and_then (λ kind. block_with kind n ps) o ≡ Some block → is_listed block ≡ true
kind_listed n ps block None e h = nothing block h
kind_listed n ps block (Some kind) e h = with_listed kind n ps block e h

numbered_listed : (n : ℕ) (ps : List Property) (block : Block) → block_numbered n ps ≡ Some block → is_listed block ≡ true
unfolding block_numbered
numbered_listed n ps block h = kind_listed n ps block (kind_at n) refl h

number_listed : (ps : List Property) (block : Block) (o : Option ℕ) → option_and_then (λ n. block_numbered n ps) o ≡ Some block → is_listed block ≡ true
number_listed ps block None h = nothing block h
number_listed ps block (Some n) h = numbered_listed n ps block h

named_listed : (name : List ℕ) (ps : List Property) (block : Block) → block_named name ps ≡ Some block → is_listed block ≡ true
unfolding block_named
named_listed name ps block h = number_listed ps block (number_of name) h

if_listed : (o : Option Block) → ((block : Block) → o ≡ Some block → is_listed block ≡ true) → IfSome o (λ block. IsTrue (is_listed block))
if_listed None l = tt
if_listed (Some block) l = l block refl

-- a block of a name is listed
pub block_named-listed : (o : Option Block) (name : List ℕ) (ps : List Property) → o ≡ block_named name ps → IfSome o (λ block. IsTrue (is_listed block))
block_named-listed o name ps e = if_listed o (λ block h. named_listed name ps block (sym e ∙ h))

state_listed : (block : Block) (o : Option StateText) → option_and_then (λ s. block_named s.name s.properties) o ≡ Some block → is_listed block ≡ true
state_listed block None h = nothing block h
state_listed block (Some s) h = named_listed s.name s.properties block h

-- a block that a text means is listed
pub block_of-listed : (text : List ℕ) (block : Block) → block_of text ≡ Some block → is_listed block ≡ true
unfolding block_of
block_of-listed text block h = state_listed block (state_of (without_namespace text)) h
