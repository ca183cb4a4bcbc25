-- What is read at a place, and the base power of a wire, by taps.
use Rattle.std.proofs.Common.{◌≡◌, ℕ, Bool, true, false, true≢false, List, [], ◌∷◌, map, max, refl, sym, ◌∙◌, ap, subst, arith, inl, inr, Option, Some, None}
use Rattle.std.specs.Prelude.{is_some, if◌then◌else◌}
use Rattle.std.specs.List.{flat_map}
use Rattle.wire_net.specs.Net.{greatest}
use Rattle.block_table.specs.declared.Side.{Side}
use Rattle.block_table.specs.declared.Side.TheVariants.{Down}
use Rattle.block_table.specs.declared.Block.{Block}
use Rattle.block_table.specs.declared.Block.TheVariants.{Wire, Torch, WallTorch, Repeater, Comparator, Lamp, Trapdoor, Note}
use Rattle.block_table.specs.Facts.{opposite}
use Rattle.circuit.specs.declared.Pos.{Pos}
use Rattle.circuit.specs.Circuit.{Among}
use Rattle.build.specs.Place.{sides}
use Rattle.build.specs.Plan.{Plan, block_at}
use Rattle.build.specs.Roles.{direct_at, far_at}
use Rattle.wire_shape.specs.Shape.{across, is_wire}
use Rattle.power_rules.specs.Power.{read, read_around, read_no_dust, undusted, input, measured, or_direct, or_far, lock_power, lateral_power, lateral_at, turned_at}
use Rattle.power_rules.specs.Readings.{readings_of, readings_at}
use Rattle.power_rules.specs.RightWires.{source_power}
use Rattle.wiring.specs.Taps.{Tap, Direct, Wired, back_taps, side_taps}
use Rattle.wiring.specs.Readers.{reader_taps, reader_side_taps}
use Rattle.wiring.specs.Reads.{given_of, tap_value, is_source, IsTap, IsPlain, tap_place, direct_of, back_places, side_places, direct_places, highest, back_with, readings_with, Agree}
use Rattle.wiring.proofs.Lists.{From_one, among-flat_map, greatest-flat_map}
use Rattle.wiring.proofs.TapLaws.{read-taps, input-taps, lock-taps, lateral-taps, back-is_tap, side-is_tap}

-- ---- what taps give

abbrev pub given_by_taps : Plan → (Pos → ℕ) → List Tap → ℕ
given_by_taps b level taps = greatest (map (tap_value b level) taps)

-- it depends on the levels at their places
pub taps-agree : (b : Plan) (f g : Pos → ℕ) (taps : List Tap) → Agree f g (map tap_place taps) → given_by_taps b f taps ≡ given_by_taps b g taps
taps-agree b f g [] h = refl
taps-agree b f g (Direct p ∷ taps) h = λ i. max (given_of (block_at b p) (h p (inl refl) i)) (taps-agree b f g taps (λ q k. h q (inr k)) i)
taps-agree b f g (Wired p ∷ taps) h = λ i. max (h p (inl refl) i) (taps-agree b f g taps (λ q k. h q (inr k)) i)

-- and is the greatest of them where what gives power gives its level as it is
pub taps-plain : (b : Plan) (level : Pos → ℕ) → IsPlain b level → (taps : List Tap) → ((tap : Tap) → Among taps tap → IsTap b tap) → given_by_taps b level taps ≡ highest level (map tap_place taps)
taps-plain b level plain [] h = refl
taps-plain b level plain (Direct p ∷ taps) h = λ i. max (plain.each p (h (Direct p) (inl refl)) i) (taps-plain b level plain taps (λ t k. h t (inr k)) i)
taps-plain b level plain (Wired p ∷ taps) h = λ i. max (level p) (taps-plain b level plain taps (λ t k. h t (inr k)) i)

-- ---- what each kind of reader reads

measured-taps : (b : Plan) (level : Pos → ℕ) (p : Pos) (facing : Side) →
    measured b level p facing ≡ or_direct (direct_at b p facing) (or_far (far_at b p facing) (given_by_taps b level (if is_some (direct_at b p facing) then [] else back_taps b true p facing)))
unfolding measured
measured-taps b level p facing = by_direct (direct_at b p facing)
  where
    by_direct : (direct : Option ℕ) →
        or_direct direct (or_far (far_at b p facing) (input b level p facing)) ≡ or_direct direct (or_far (far_at b p facing) (given_by_taps b level (if is_some direct then [] else back_taps b true p facing)))
    by_direct None = ap (or_far (far_at b p facing)) (sym (input-taps b level p facing))
    by_direct (Some strength) = refl

around-taps : (b : Plan) (level : Pos → ℕ) (p : Pos) → read_around b level p ≡ given_by_taps b level (flat_map (back_taps b false p) sides)
unfolding read_around
around-taps b level p = sym (greatest-flat_map (tap_value b level) (back_taps b false p) (read b level p) sides (λ s _. read-taps b level p s))

pub back-reads : (b : Plan) (level : Pos → ℕ) (p : Pos) (k : Block) → (readings_of b level p k).back ≡ back_with b p k (given_by_taps b level (reader_taps b p k))
back-reads b level p (Torch lit) = sym (read-taps b level p Down)
back-reads b level p (WallTorch facing lit) = sym (read-taps b level p (opposite facing))
back-reads b level p (Lamp lit) = around-taps b level p
back-reads b level p (Trapdoor facing top powered) = around-taps b level p
back-reads b level p (Note powered) = around-taps b level p
back-reads b level p (Repeater delay facing powered) = sym (input-taps b level p facing)
back-reads b level p (Comparator facing subtract) = measured-taps b level p facing
back-reads b level p (Wire n e s w power) = omega arith
back-reads b level p _ = refl

sides-taps : (b : Plan) (level : Pos → ℕ) (comparator : Bool) (p : Pos) (ss : List Side) (f : Side → ℕ) → ((s : Side) → given_by_taps b level (side_taps b comparator p s) ≡ f s) →
    greatest (map f ss) ≡ given_by_taps b level (flat_map (side_taps b comparator p) ss)
sides-taps b level comparator p ss f h = sym (greatest-flat_map (tap_value b level) (side_taps b comparator p) f ss (λ s _. h s))

pub side-reads : (b : Plan) (level : Pos → ℕ) (p : Pos) (k : Block) → (readings_of b level p k).side ≡ given_by_taps b level (reader_side_taps b p k)
unfolding lock_power lateral_power
side-reads b level p (Repeater delay facing powered) = sides-taps b level false p (across facing) (turned_at b level p) (lock-taps b level p)
side-reads b level p (Comparator facing subtract) = sides-taps b level true p (across facing) (lateral_at b level p) (lateral-taps b level p)
side-reads b level p _ = refl

reads-taps : (b : Plan) (level : Pos → ℕ) (p : Pos) →
    readings_at b level p ≡ readings_with b p (given_by_taps b level (reader_taps b p (block_at b p))) (given_by_taps b level (reader_side_taps b p (block_at b p)))
unfolding readings_at
reads-taps b level p = λ i. record { back = back-reads b level p (block_at b p) i; side = side-reads b level p (block_at b p) i }

-- ---- the taps of readers are taps

around-is_tap : (b : Plan) (p : Pos) (tap : Tap) → Among (flat_map (back_taps b false p) sides) tap → IsTap b tap
around-is_tap b p tap h =
    let r : From_one (back_taps b false p) sides tap = among-flat_map (back_taps b false p) sides tap h in
    back-is_tap b false p r.it tap r.gives

across-is_tap : (b : Plan) (comparator : Bool) (p : Pos) (ss : List Side) (tap : Tap) → Among (flat_map (side_taps b comparator p) ss) tap → IsTap b tap
across-is_tap b comparator p ss tap h =
    let r : From_one (side_taps b comparator p) ss tap = among-flat_map (side_taps b comparator p) ss tap h in
    side-is_tap b comparator p r.it tap r.gives

unless-is_tap : (b : Plan) (p : Pos) (facing : Side) (direct : Option ℕ) (tap : Tap) → Among (if is_some direct then [] else back_taps b true p facing) tap → IsTap b tap
unless-is_tap b p facing None tap h = back-is_tap b true p facing tap h
unless-is_tap b p facing (Some strength) tap h = absurd h

reader-is_tap : (b : Plan) (p : Pos) (k : Block) → block_at b p ≡ k → (tap : Tap) → Among (reader_taps b p k) tap → IsTap b tap
reader-is_tap b p (Torch lit) e tap h = back-is_tap b false p Down tap h
reader-is_tap b p (WallTorch facing lit) e tap h = back-is_tap b false p (opposite facing) tap h
reader-is_tap b p (Lamp lit) e tap h = around-is_tap b p tap h
reader-is_tap b p (Trapdoor facing top powered) e tap h = around-is_tap b p tap h
reader-is_tap b p (Note powered) e tap h = around-is_tap b p tap h
reader-is_tap b p (Repeater delay facing powered) e tap h = back-is_tap b true p facing tap h
reader-is_tap b p (Comparator facing subtract) e tap h = unless-is_tap b p facing (direct_at b p facing) tap h
reader-is_tap b p (Wire north east south west power) e tap (inl same) = subst (λ (t : Tap). IsTap b t) (sym same) (ap is_wire e)
reader-is_tap b p (Wire north east south west power) e tap (inr none) = absurd none
reader-is_tap b p _ e tap h = absurd h

pub reader_sides-is_tap : (b : Plan) (p : Pos) (k : Block) (tap : Tap) → Among (reader_side_taps b p k) tap → IsTap b tap
reader_sides-is_tap b p (Repeater delay facing powered) tap h = across-is_tap b false p (across facing) tap h
reader_sides-is_tap b p (Comparator facing subtract) tap h = across-is_tap b true p (across facing) tap h
reader_sides-is_tap b p _ tap h = absurd h

pub reader_backs-is_tap : (b : Plan) (p : Pos) (tap : Tap) → Among (reader_taps b p (block_at b p)) tap → IsTap b tap
reader_backs-is_tap b p tap h = reader-is_tap b p (block_at b p) refl tap h

-- ---- the two laws of readings

-- what is read is the greatest level at the taps
pub readings-taps : (b : Plan) (level : Pos → ℕ) → IsPlain b level → (p : Pos) → readings_at b level p ≡ readings_with b p (highest level (back_places b p)) (highest level (side_places b p))
readings-taps b level plain p =
    reads-taps b level p
    ∙ (λ i. readings_with b p (taps-plain b level plain (reader_taps b p (block_at b p)) (reader_backs-is_tap b p) i) (taps-plain b level plain (reader_side_taps b p (block_at b p)) (reader_sides-is_tap b p (block_at b p)) i))

-- where no level at a tap differs the same is read
pub readings-agree : (b : Plan) (f g : Pos → ℕ) (p : Pos) → Agree f g (back_places b p) → Agree f g (side_places b p) → readings_at b f p ≡ readings_at b g p
readings-agree b f g p back side =
    reads-taps b f p
    ∙ (λ i. readings_with b p (taps-agree b f g (reader_taps b p (block_at b p)) back i) (taps-agree b f g (reader_side_taps b p (block_at b p)) side i))
    ∙ sym (reads-taps b g p)

-- ---- the base power of a wire

pub source-dry : (k : Block) → is_source k ≡ true → is_wire k ≡ false
source-dry (Wire n e s w power) h = absurd (true≢false (sym h))
source-dry _ h = refl

-- what a component gives by what is given at its place
abbrev given_there : Plan → (Pos → ℕ) → Pos → ℕ
given_there b given p = given_of (block_at b p) (given p)

direct-value : (b : Plan) (given : Pos → ℕ) (tap : Tap) → IsTap b tap → tap_value b (undusted b given) tap ≡ greatest (map (given_there b given) (direct_of tap))
unfolding undusted
direct-value b given (Direct p) h = rw (source-dry (block_at b p) h) (omega arith)
direct-value b given (Wired p) h = rw h refl

undusted-taps : (b : Plan) (given : Pos → ℕ) (taps : List Tap) → ((tap : Tap) → Among taps tap → IsTap b tap) →
    given_by_taps b (undusted b given) taps ≡ greatest (map (given_there b given) (flat_map direct_of taps))
undusted-taps b given taps h = sym (greatest-flat_map (given_there b given) direct_of (tap_value b (undusted b given)) taps (λ tap k. sym (direct-value b given tap (h tap k))))

source-direct : (b : Plan) (given : Pos → ℕ) (p : Pos) → source_power b given p ≡ greatest (map (given_there b given) (direct_places b p))
unfolding source_power
source-direct b given p =
    sym (greatest-flat_map (tap_value b (undusted b given)) (back_taps b false p) (read_no_dust b given p) sides (λ s _. read-taps b (undusted b given) p s))
    ∙ undusted-taps b given (flat_map (back_taps b false p) sides) (around-is_tap b p)

same_places : (f g : Pos → ℕ) (ps : List Pos) → ((p : Pos) → Among ps p → f p ≡ g p) → greatest (map f ps) ≡ greatest (map g ps)
same_places f g [] h = refl
same_places f g (p ∷ ps) h = λ i. max (h p (inl refl) i) (same_places f g ps (λ q k. h q (inr k)) i)

direct-source : (b : Plan) (tap : Tap) (p : Pos) → IsTap b tap → Among (direct_of tap) p → is_source (block_at b p) ≡ true
direct-source b (Direct q) p h (inl e) = ap (λ (r : Pos). is_source (block_at b r)) e ∙ h
direct-source b (Direct q) p h (inr none) = absurd none
direct-source b (Wired q) p h none = absurd none

-- each of its direct taps can give power
pub direct_places-source : (b : Plan) (w p : Pos) → Among (direct_places b w) p → is_source (block_at b p) ≡ true
direct_places-source b w p h =
    let r : From_one direct_of (flat_map (back_taps b false w) sides) p = among-flat_map direct_of (flat_map (back_taps b false w) sides) p h in
    direct-source b r.it p (around-is_tap b w r.it r.is_in) r.gives

-- it is the greatest that the direct taps give
pub source-taps : (b : Plan) (given : Pos → ℕ) → IsPlain b given → (p : Pos) → source_power b given p ≡ highest given (direct_places b p)
source-taps b given plain p = source-direct b given p ∙ same_places (given_there b given) given (direct_places b p) (λ q h. plain.each q (direct_places-source b p q h))

-- where no direct tap gives something else it is the same
pub source-agree : (b : Plan) (f g : Pos → ℕ) (p : Pos) → Agree f g (direct_places b p) → source_power b f p ≡ source_power b g p
source-agree b f g p h =
    source-direct b f p ∙ same_places (given_there b f) (given_there b g) (direct_places b p) (λ q k. ap (given_of (block_at b q)) (h q k)) ∙ sym (source-direct b g p)
