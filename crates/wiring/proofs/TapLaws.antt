-- What is read from a neighbour is the greatest that its taps give.
use Rattle.std.proofs.Common.{◌≡◌, ℕ, Bool, true, false, true≢false, List, [], ◌∷◌, map, refl, sym, ◌∙◌, ap, subst, arith, inl, inr}
use Rattle.std.specs.Prelude.{◌||◌, ◌&&◌}
use Rattle.std.specs.List.{flat_map}
use Rattle.std.proofs.lemmas.Bool.{cases_Bool}
use Rattle.wire_net.specs.Net.{greatest}
use Rattle.block_table.specs.declared.Side.{Side}
use Rattle.block_table.specs.declared.Side.TheVariants.{Down, Up, North, South, West, East}
use Rattle.block_table.specs.declared.Block.{Block}
use Rattle.block_table.specs.declared.Block.TheVariants.{Wire, Torch, WallTorch, Repeater, Comparator, Lever, Button, Plate, RedstoneBlock, Weighted}
use Rattle.block_table.specs.Facts.{opposite, is_solid}
use Rattle.circuit.specs.declared.Pos.{Pos}
use Rattle.circuit.specs.Circuit.{Among}
use Rattle.build.specs.Place.{beside, sides, same_side}
use Rattle.build.specs.Plan.{Plan, block_at, solid_at}
use Rattle.wire_shape.specs.Shape.{is_wire, wire_at}
use Rattle.power_rules.specs.Power.{only, weak_of, weak, strong_of, strong, charge, read, input, turned, turned_at, lateral, lateral_at}
use Rattle.wiring.specs.Taps.{Tap, Direct, Wired, lets_weak, lets_strong, wire_gives, when, strong_taps, weak_taps, back_taps, is_turned, is_redstone, side_taps}
use Rattle.wiring.specs.Reads.{given_of, tap_value, is_source, IsTap}
use Rattle.wiring.proofs.Lists.{From_one, among-flat_map, greatest-flat_map}

-- ---- one block

strong_of-component : (b : Plan) (p : Pos) (k : Block) (l : ℕ) (side : Side) → is_wire k ≡ false → strong_of b p k l side ≡ only (lets_strong k side) (given_of k l)
strong_of-component b p (Torch lit) l side h = refl
strong_of-component b p (WallTorch facing lit) l side h = refl
strong_of-component b p (Lever face facing powered) l side h = refl
strong_of-component b p (Button name face facing powered) l side h = refl
strong_of-component b p (Plate name powered) l side h = refl
strong_of-component b p (Weighted name power) l side h = refl
strong_of-component b p (Repeater delay facing powered) l side h = refl
strong_of-component b p (Comparator facing subtract) l side h = refl
strong_of-component b p (Wire n e s w power) l side h = absurd (true≢false h)
strong_of-component b p _ l side h = refl

weak_of-component : (b : Plan) (p : Pos) (k : Block) (l : ℕ) (side : Side) → is_wire k ≡ false → weak_of b p k l side ≡ only (lets_weak k side) (given_of k l)
weak_of-component b p (Torch lit) l side h = refl
weak_of-component b p (WallTorch facing lit) l side h = refl
weak_of-component b p RedstoneBlock l side h = refl
weak_of-component b p (Lever face facing powered) l side h = refl
weak_of-component b p (Button name face facing powered) l side h = refl
weak_of-component b p (Plate name powered) l side h = refl
weak_of-component b p (Weighted name power) l side h = refl
weak_of-component b p (Repeater delay facing powered) l side h = refl
weak_of-component b p (Comparator facing subtract) l side h = refl
weak_of-component b p (Wire n e s w power) l side h = absurd (true≢false h)
weak_of-component b p _ l side h = refl

weak_of-sides : (b : Plan) (p : Pos) (n e s w : _) (power l : ℕ) (side : Side) → weak_of b p (Wire n e s w power) l side ≡ only (wire_gives b p side) l
weak_of-sides b p n e s w power l Down = refl
weak_of-sides b p n e s w power l Up = refl
weak_of-sides b p n e s w power l North = refl
weak_of-sides b p n e s w power l South = refl
weak_of-sides b p n e s w power l West = refl
weak_of-sides b p n e s w power l East = refl

weak_of-wire : (b : Plan) (p : Pos) (k : Block) (l : ℕ) (side : Side) → is_wire k ≡ true → weak_of b p k l side ≡ only (wire_gives b p side) l
weak_of-wire b p (Wire n e s w power) l side h = weak_of-sides b p n e s w power l side
weak_of-wire b p _ l side h = absurd (true≢false (sym h))

strong_of-wire : (b : Plan) (p : Pos) (k : Block) (l : ℕ) (side : Side) → is_wire k ≡ true → strong_of b p k l side ≡ only (wire_gives b p side) l
strong_of-wire b p (Wire n e s w power) l side h = weak_of-sides b p n e s w power l side
strong_of-wire b p _ l side h = absurd (true≢false (sym h))

when-greatest : (f : Tap → ℕ) (test : Bool) (tap : Tap) → greatest (map f (when test tap)) ≡ only test (f tap)
when-greatest f true tap = omega arith
when-greatest f false tap = refl

-- ---- one neighbour

strong-taps : (b : Plan) (level : Pos → ℕ) (q : Pos) (side : Side) → greatest (map (tap_value b level) (strong_taps b q side)) ≡ strong b level q side
unfolding strong
strong-taps b level q side = elim (cases_Bool (wire_at b q)) [
  | inl e ↦ rw e (when-greatest (tap_value b level) (wire_gives b q side) (Wired q) ∙ sym (strong_of-wire b q (block_at b q) (level q) side e))
  | inr e ↦ rw e (when-greatest (tap_value b level) (lets_strong (block_at b q) side) (Direct q) ∙ sym (strong_of-component b q (block_at b q) (level q) side e))
]

weak-taps : (b : Plan) (level : Pos → ℕ) (q : Pos) (side : Side) → greatest (map (tap_value b level) (weak_taps b false q side)) ≡ weak b level q side
unfolding weak
weak-taps b level q side = elim (cases_Bool (wire_at b q)) [
  | inl e ↦ rw e (when-greatest (tap_value b level) (wire_gives b q side) (Wired q) ∙ sym (weak_of-wire b q (block_at b q) (level q) side e))
  | inr e ↦ rw e (when-greatest (tap_value b level) (lets_weak (block_at b q) side) (Direct q) ∙ sym (weak_of-component b q (block_at b q) (level q) side e))
]

-- what is read from the neighbour on a side is the greatest that its taps give
pub read-taps : (b : Plan) (level : Pos → ℕ) (p : Pos) (side : Side) → greatest (map (tap_value b level) (back_taps b false p side)) ≡ read b level p side
unfolding back_taps read charge
read-taps b level p side = elim (cases_Bool (solid_at b (beside side p))) [
  | inl e ↦ rw e (greatest-flat_map (tap_value b level) (λ s. strong_taps b (beside s (beside side p)) (opposite s)) (λ s. strong b level (beside s (beside side p)) (opposite s)) sides
      (λ s _. strong-taps b level (beside s (beside side p)) (opposite s)))
  | inr e ↦ rw e (weak-taps b level (beside side p) (opposite side))
]

-- ---- a diode's input block

wire-not_solid : (k : Block) → is_wire k ≡ true → is_solid k ≡ false
wire-not_solid (Wire n e s w power) h = refl
wire-not_solid _ h = absurd (true≢false (sym h))

diode-dry : (b : Plan) (p : Pos) (side : Side) → wire_at b (beside side p) ≡ false → back_taps b true p side ≡ back_taps b false p side
unfolding back_taps
diode-dry b p side e = rw e refl

diode-wire : (b : Plan) (p : Pos) (side : Side) → wire_at b (beside side p) ≡ true → back_taps b true p side ≡ Wired (beside side p) ∷ []
unfolding back_taps
diode-wire b p side e = rw (wire-not_solid (block_at b (beside side p)) e) (rw e refl)

-- a diode reads each wire
pub input-taps : (b : Plan) (level : Pos → ℕ) (p : Pos) (side : Side) → greatest (map (tap_value b level) (back_taps b true p side)) ≡ input b level p side
unfolding input
input-taps b level p side = elim (cases_Bool (wire_at b (beside side p))) [
  | inl e ↦ rw e (ap (λ (taps : List Tap). greatest (map (tap_value b level) taps)) (diode-wire b p side e) ∙ omega arith)
  | inr e ↦ rw e (ap (λ (taps : List Tap). greatest (map (tap_value b level) taps)) (diode-dry b p side e) ∙ read-taps b level p side)
]

-- ---- the sides of a diode

turned-component : (k : Block) (l : ℕ) (side : Side) → turned k l side ≡ only (is_turned k side) (given_of k l)
turned-component (Repeater delay facing powered) l side = refl
turned-component (Comparator facing subtract) l side = refl
turned-component _ l side = refl

lateral-component : (k : Block) (l : ℕ) (side : Side) → is_wire k ≡ false → lateral k l side ≡ only (is_turned k side || is_redstone k) (given_of k l)
lateral-component (Repeater delay facing powered) l side h = elim (cases_Bool (same_side facing side)) [ inl e ↦ rw e refl | inr e ↦ rw e refl ]
lateral-component (Comparator facing subtract) l side h = elim (cases_Bool (same_side facing side)) [ inl e ↦ rw e refl | inr e ↦ rw e refl ]
lateral-component (Wire n e s w power) l side h = absurd (true≢false h)
lateral-component _ l side h = refl

lateral-wire : (k : Block) (l : ℕ) (side : Side) → is_wire k ≡ true → lateral k l side ≡ l
lateral-wire (Wire n e s w power) l side h = refl
lateral-wire _ l side h = absurd (true≢false (sym h))

or-false : (test : Bool) → (test || false) ≡ test
or-false true = refl
or-false false = refl

pub lock-taps : (b : Plan) (level : Pos → ℕ) (p : Pos) (side : Side) → greatest (map (tap_value b level) (side_taps b false p side)) ≡ turned_at b level p side
unfolding side_taps
lock-taps b level p side =
    when-greatest (tap_value b level) (is_turned (block_at b (beside side p)) side || false) (Direct (beside side p))
    ∙ ap (λ (test : Bool). only test (given_of (block_at b (beside side p)) (level (beside side p)))) (or-false (is_turned (block_at b (beside side p)) side))
    ∙ sym (turned-component (block_at b (beside side p)) (level (beside side p)) side)

pub lateral-taps : (b : Plan) (level : Pos → ℕ) (p : Pos) (side : Side) → greatest (map (tap_value b level) (side_taps b true p side)) ≡ lateral_at b level p side
unfolding side_taps
lateral-taps b level p side = elim (cases_Bool (wire_at b (beside side p))) [
  | inl e ↦ rw e (let k : lateral_at b level p side ≡ level (beside side p) = lateral-wire (block_at b (beside side p)) (level (beside side p)) side e in omega arith)
  | inr e ↦ rw e (when-greatest (tap_value b level) (is_turned (block_at b (beside side p)) side || is_redstone (block_at b (beside side p))) (Direct (beside side p))
      ∙ sym (lateral-component (block_at b (beside side p)) (level (beside side p)) side e))
]

-- ---- what can be a tap

weak-source : (k : Block) (side : Side) → lets_weak k side ≡ true → is_source k ≡ true
weak-source (Torch lit) side h = refl
weak-source (WallTorch facing lit) side h = refl
weak-source RedstoneBlock side h = refl
weak-source (Plate name powered) side h = refl
weak-source (Weighted name power) side h = refl
weak-source (Lever face facing powered) side h = refl
weak-source (Button name face facing powered) side h = refl
weak-source (Repeater delay facing powered) side h = refl
weak-source (Comparator facing subtract) side h = refl
weak-source _ side h = h

strong-source : (k : Block) (side : Side) → lets_strong k side ≡ true → is_source k ≡ true
strong-source (Torch lit) side h = refl
strong-source (WallTorch facing lit) side h = refl
strong-source (Plate name powered) side h = refl
strong-source (Weighted name power) side h = refl
strong-source (Lever face facing powered) side h = refl
strong-source (Button name face facing powered) side h = refl
strong-source (Repeater delay facing powered) side h = refl
strong-source (Comparator facing subtract) side h = refl
strong-source _ side h = absurd (true≢false (sym h))

turned-source : (k : Block) (side : Side) → is_turned k side ≡ true → is_source k ≡ true
turned-source (Repeater delay facing powered) side h = refl
turned-source (Comparator facing subtract) side h = refl
turned-source _ side h = absurd (true≢false (sym h))

redstone-source : (k : Block) → is_redstone k ≡ true → is_source k ≡ true
redstone-source RedstoneBlock h = refl
redstone-source _ h = absurd (true≢false (sym h))

when-tap : (b : Plan) (t : Bool) (x tap : Tap) → (t ≡ true → IsTap b x) → Among (when t x) tap → IsTap b tap
when-tap b true x tap h (inl e) = subst (λ (y : Tap). IsTap b y) (sym e) (h refl)
when-tap b true x tap h (inr k) = absurd k
when-tap b false x tap h k = absurd k

strong-is_tap : (b : Plan) (q : Pos) (side : Side) (tap : Tap) → Among (strong_taps b q side) tap → IsTap b tap
strong-is_tap b q side tap h = elim (cases_Bool (wire_at b q)) [
  | inl e ↦ when-tap b (wire_gives b q side) (Wired q) tap (λ _. e) (rw e at h)
  | inr e ↦ when-tap b (lets_strong (block_at b q) side) (Direct q) tap (λ k. strong-source (block_at b q) side k) (rw e at h)
]

weak-is_tap : (b : Plan) (diode : Bool) (q : Pos) (side : Side) (tap : Tap) → Among (weak_taps b diode q side) tap → IsTap b tap
weak-is_tap b diode q side tap h = elim (cases_Bool (wire_at b q)) [
  | inl e ↦ when-tap b (diode || wire_gives b q side) (Wired q) tap (λ _. e) (rw e at h)
  | inr e ↦ when-tap b (lets_weak (block_at b q) side) (Direct q) tap (λ k. weak-source (block_at b q) side k) (rw e at h)
]

pub back-is_tap : (b : Plan) (diode : Bool) (p : Pos) (side : Side) (tap : Tap) → Among (back_taps b diode p side) tap → IsTap b tap
unfolding back_taps
back-is_tap b diode p side tap h = elim (cases_Bool (solid_at b (beside side p))) [
  | inl e ↦ solid (rw e at h)
  | inr e ↦ weak-is_tap b diode (beside side p) (opposite side) tap (rw e at h)
]
  where
    solid : Among (flat_map (λ s. strong_taps b (beside s (beside side p)) (opposite s)) sides) tap → IsTap b tap
    solid k =
        let r : From_one (λ s. strong_taps b (beside s (beside side p)) (opposite s)) sides tap = among-flat_map (λ s. strong_taps b (beside s (beside side p)) (opposite s)) sides tap k in
        strong-is_tap b (beside r.it (beside side p)) (opposite r.it) tap r.gives

either-source : (k : Block) (side : Side) (c : Bool) → (is_turned k side || (c && is_redstone k)) ≡ true → is_source k ≡ true
either-source k side c h = elim (cases_Bool (is_turned k side)) [
  | inl e ↦ turned-source k side e
  | inr e ↦ rest c (rw e at h)
]
  where
    rest : (c : Bool) → (c && is_redstone k) ≡ true → is_source k ≡ true
    rest true h = redstone-source k h
    rest false h = absurd (true≢false (sym h))

pub side-is_tap : (b : Plan) (c : Bool) (p : Pos) (side : Side) (tap : Tap) → Among (side_taps b c p side) tap → IsTap b tap
unfolding side_taps
side-is_tap b c p side tap h = elim (cases_Bool (c && wire_at b (beside side p))) [
  | inl e ↦ when-tap b true (Wired (beside side p)) tap (λ _. second c e) (rw e at h)
  | inr e ↦ when-tap b (is_turned (block_at b (beside side p)) side || (c && is_redstone (block_at b (beside side p)))) (Direct (beside side p)) tap
      (λ k. either-source (block_at b (beside side p)) side c k) (rw e at h)
]
  where
    second : (c : Bool) → (c && wire_at b (beside side p)) ≡ true → wire_at b (beside side p) ≡ true
    second true k = k
    second false k = absurd (true≢false (sym k))
