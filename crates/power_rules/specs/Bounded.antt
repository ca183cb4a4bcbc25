-- No power is above 15 where no level is, and so the world stays within its bounds.
use Rattle.std.proofs.Common.{◌≡◌, ℕ, ◌*◌, ◌-◌, ◌≤◌, Bool, true, false, cond, pos, List, [], ◌∷◌, length, get_or, map, Option, Some, None, refl, arith, inl, inr}
use Rattle.std.specs.Prelude.{◌==◌, nat_lt, nat_le, slice_index}
use Rattle.std.proofs.lemmas.Bool.{and_parts, cases_Bool, cases_lt, ltb-true, leb-true, eqb-true}
use Rattle.std.proofs.lemmas.List.{get_or-map, length-map}
use Rattle.std.proofs.Math.ListN.{get_or-eq_default}
use Rattle.block_table.specs.declared.Side.{Side}
use Rattle.block_table.specs.declared.Side.TheVariants.{Down, Up, North, South, West, East}
use Rattle.block_table.specs.declared.Block.{Block}
use Rattle.block_table.specs.declared.Block.TheVariants.{Wire, Torch, WallTorch, Repeater, Comparator, Lever, Button, Plate, RedstoneBlock, Lamp, Trapdoor, Container, Composter, Cauldron, Cake, Weighted, Note}
use Rattle.block_table.specs.Facts.{opposite}
use Rattle.block_table.specs.Table.{kind_at}
use Rattle.block_table.specs.WrittenText.{is_listed, is_weighted}
use Rattle.circuit.specs.declared.Pos.{Pos}
use Rattle.circuit.specs.Bounds.{BoundedAt, IsBounded as IsBoundedCircuit}
use Rattle.build.specs.declared.Pending.{Pending}
use Rattle.build.specs.Place.{beside, sides}
use Rattle.build.specs.Plan.{Plan, IsWhole, in_box, entry, cell_of, places, block_at, solid_at, strength_at, strength_of, level_fits, has_level}
use Rattle.build.specs.Marks.{is_marked}
use Rattle.build.specs.Roles.{role_of, role_at, base_of, base_at, on_if, stored_value, waiting_at, cell_with, stored_of, stored, direct_at, far_at, if_solid}
use Rattle.wire_net.specs.Net.{no_cell, greatest, IsBounded, right_powers}
use Rattle.wire_net.specs.Laws.{right_bounded, right_powers_right}
use Rattle.wire_shape.specs.Shape.{wire_at, points}
use Rattle.power_rules.specs.Power.{full, only, weak_of, weak, strong_of, strong, charge, read, undusted, read_no_dust, read_around, input, or_far, or_direct, measured}
use Rattle.power_rules.specs.Readings.{readings_of, readings_at}
use Rattle.power_rules.specs.RightWires.{source_power, wire_cell, wire_cells, wire_powers, levels}
use Rattle.power_rules.specs.World.{world_circuit}

-- ---- powers

full-le : (n : ℕ) → full n ≤ 15
full-le n = grind arith

only-le : (t : Bool) (n m : ℕ) → n ≤ m → only t n ≤ m
only-le true n m h = h
only-le false n m h = omega arith

weak_of-le : (b : Plan) (p : Pos) (block : Block) (level : ℕ) (side : Side) → level ≤ 15 → weak_of b p block level side ≤ 15
weak_of-le b p (Torch lit) level side h = only-le _ (full level) 15 (full-le level)
weak_of-le b p (WallTorch facing lit) level side h = only-le _ (full level) 15 (full-le level)
weak_of-le b p RedstoneBlock level side h = omega arith
weak_of-le b p (Lever face facing powered) level side h = full-le level
weak_of-le b p (Button name face facing powered) level side h = full-le level
weak_of-le b p (Plate name powered) level side h = full-le level
weak_of-le b p (Weighted name power) level side h = h
weak_of-le b p (Repeater delay facing powered) level side h = only-le _ (full level) 15 (full-le level)
weak_of-le b p (Comparator facing subtract) level side h = only-le _ level 15 h
weak_of-le b p (Wire n e s w power) level Down h = h
weak_of-le b p (Wire n e s w power) level Up h = omega arith
weak_of-le b p (Wire n e s w power) level North h = only-le (points b p North) level 15 h
weak_of-le b p (Wire n e s w power) level South h = only-le (points b p South) level 15 h
weak_of-le b p (Wire n e s w power) level West h = only-le (points b p West) level 15 h
weak_of-le b p (Wire n e s w power) level East h = only-le (points b p East) level 15 h
weak_of-le b p _ level side h = omega arith

strong_of-le : (b : Plan) (p : Pos) (block : Block) (level : ℕ) (side : Side) → level ≤ 15 → strong_of b p block level side ≤ 15
strong_of-le b p (Torch lit) level side h = only-le _ (full level) 15 (full-le level)
strong_of-le b p (WallTorch facing lit) level side h = only-le _ (full level) 15 (full-le level)
strong_of-le b p (Lever face facing powered) level side h = only-le _ (full level) 15 (full-le level)
strong_of-le b p (Button name face facing powered) level side h = only-le _ (full level) 15 (full-le level)
strong_of-le b p (Plate name powered) level side h = only-le _ (full level) 15 (full-le level)
strong_of-le b p (Weighted name power) level side h = only-le _ level 15 h
strong_of-le b p (Repeater delay facing powered) level side h = weak_of-le b p (Repeater delay facing powered) level side h
strong_of-le b p (Comparator facing subtract) level side h = weak_of-le b p (Comparator facing subtract) level side h
strong_of-le b p (Wire n e s w power) level side h = weak_of-le b p (Wire n e s w power) level side h
strong_of-le b p _ level side h = omega arith

greatest-within : {A : Type 0} (f : A → ℕ) (m : ℕ) → ((x : A) → f x ≤ m) → (xs : List A) → greatest (map f xs) ≤ m
greatest-within f m h [] = omega arith
greatest-within f m h (x ∷ xs) = omega (arith, h x, greatest-within f m h xs)

pub read-le : (b : Plan) (level : Pos → ℕ) (p : Pos) (side : Side) → ((q : Pos) → level q ≤ 15) → read b level p side ≤ 15
unfolding read strong charge weak
read-le b level p side h = elim (cases_Bool (solid_at b (beside side p))) [
  | inl e ↦ rw e (greatest-within (λ s. strong b level (beside s (beside side p)) (opposite s)) 15
      (λ s. strong_of-le b (beside s (beside side p)) (block_at b (beside s (beside side p))) (level (beside s (beside side p))) (opposite s) (h (beside s (beside side p)))) sides)
  | inr e ↦ rw e (weak_of-le b (beside side p) (block_at b (beside side p)) (level (beside side p)) (opposite side) (h (beside side p)))
]

undusted-le : (b : Plan) (level : Pos → ℕ) → ((q : Pos) → level q ≤ 15) → (q : Pos) → undusted b level q ≤ 15
unfolding undusted
undusted-le b level h q = only-le _ (level q) 15 (h q)

pub source_power-le : (b : Plan) (given : Pos → ℕ) → ((q : Pos) → given q ≤ 15) → (p : Pos) → source_power b given p ≤ 15
unfolding source_power
source_power-le b given h p = greatest-within (read_no_dust b given p) 15 (λ s. read-le b (undusted b given) p s (undusted-le b given h)) sides

pub wire_cells-bounded : (b : Plan) (given : Pos → ℕ) → ((q : Pos) → given q ≤ 15) → IsBounded (wire_cells b given)
wire_cells-bounded b given h i = elim (cases_lt i (length (places b))) [
  | inl l ↦ rw (get_or-map (wire_cell b given) (places b) i (get_or (places b) i origin) no_cell l) (each (get_or (places b) i (get_or (places b) i origin)))
  | inr l ↦ rw (get_or-eq_default (wire_cells b given) no_cell {n = i} (rw (length-map (places b) (wire_cell b given)) l)) (omega arith)
]
  where
    origin : Pos
    origin = record { x = pos 0; y = pos 0; z = pos 0 }

    each : (p : Pos) → (wire_cell b given p).base ≤ 15
    each p = elim (cases_Bool (wire_at b p)) [ inl e ↦ rw e (source_power-le b given h p) | inr e ↦ rw e (omega arith) ]

-- ---- levels and readings

entry-le : (b : Plan) (xs : List ℕ) (p : Pos) → ((i : ℕ) → slice_index xs i ≤ 15) → entry b xs 0 p ≤ 15
unfolding entry
entry-le b xs p h = go (in_box b p)
  where
    go : (t : Bool) → cond t (slice_index xs (cell_of b p)) 0 ≤ 15
    go true = h (cell_of b p)
    go false = omega arith

powers-le : (b : Plan) (given : Pos → ℕ) → ((q : Pos) → given q ≤ 15) → (p : Pos) → entry b (wire_powers b given) 0 p ≤ 15
unfolding wire_powers
powers-le b given h p =
    entry-le b (right_powers (wire_cells b given)) p
    (right_bounded (wire_cells b given) (right_powers (wire_cells b given)) (wire_cells-bounded b given h) (right_powers_right (wire_cells b given) (wire_cells-bounded b given h)))

choice-le : (t : Bool) (x y : ℕ) → x ≤ 15 → y ≤ 15 → cond t x y ≤ 15
choice-le true x y h k = h
choice-le false x y h k = k

pub levels-le : (b : Plan) (given : Pos → ℕ) → ((q : Pos) → given q ≤ 15) → (p : Pos) → levels b given (wire_powers b given) p ≤ 15
levels-le b given h p = choice-le (wire_at b p) (entry b (wire_powers b given) 0 p) (given p) (powers-le b given h p) (h p)

around-le : (b : Plan) (level : Pos → ℕ) (p : Pos) → ((q : Pos) → level q ≤ 15) → read_around b level p ≤ 15
unfolding read_around
around-le b level p h = greatest-within (read b level p) 15 (λ s. read-le b level p s h) sides

input-le : (b : Plan) (level : Pos → ℕ) (p : Pos) (facing : Side) → ((q : Pos) → level q ≤ 15) → input b level p facing ≤ 15
unfolding input
input-le b level p facing h = choice-le (wire_at b (beside facing p)) (level (beside facing p)) (read b level p facing) (h (beside facing p)) (read-le b level p facing h)

direct-le : (s : Option ℕ) (power : ℕ) → ((n : ℕ) → s ≡ Some n → n ≤ 15) → power ≤ 15 → or_direct s power ≤ 15
direct-le (Some n) power h q = h n refl
direct-le None power h q = q

far-le : (s : Option ℕ) (power : ℕ) → ((n : ℕ) → s ≡ Some n → n ≤ 15) → power ≤ 15 → or_far s power ≤ 15
far-le (Some n) power h q = choice-le (nat_lt power 15) n power (h n refl) q
far-le None power h q = q

-- ---- what a build stores

level_of_fit : (block : Block) (level : ℕ) → level_fits block level ≡ true → level ≤ 15
level_of_fit block level h = elim (cases_Bool (level == 0)) [
  | inl e ↦ omega (arith, eqb-true level 0 e)
  | inr e ↦ leb-true level 15 (and_parts (has_level block) (nat_le level 15) (rw e at h)).1
]

level-le : (b : Plan) → IsWhole b → (p : Pos) → entry b b.levels 0 p ≤ 15
level-le b w p = level_of_fit (block_at b p) (entry b b.levels 0 p) (w.fitting p)

strength_of-le : (block : Block) (level n : ℕ) → is_listed block ≡ true → level ≤ 15 → strength_of block level ≡ Some n → n ≤ 15
strength_of-le (Container name) level n l h e = let f : level ≡ n = cc in omega (arith, f)
strength_of-le (Composter filled) level n l h e = let f : filled ≡ n = cc in omega (arith, f, ltb-true filled 9 l)
strength_of-le (Cauldron true filled) level n l h e = let f : filled ≡ n = cc in omega (arith, f, ltb-true filled 4 (and_parts (nat_lt 0 filled) (nat_lt filled 4) l).1)
strength_of-le (Cauldron false filled) level n l h e = let f : filled ≡ n = cc in omega (arith, f, ltb-true filled 4 l)
strength_of-le (Cake bites) level n l h e = let f : 14 - 2 * bites ≡ n = cc in omega (arith, f)
strength_of-le _ level n l h e = absurd (cc)

pub strength-le : (b : Plan) → IsWhole b → (p : Pos) (n : ℕ) → strength_at b p ≡ Some n → n ≤ 15
strength-le b w p n e = strength_of-le (block_at b p) (entry b b.levels 0 p) n (w.listed p) (level-le b w p) e

if_solid-le : (t : Bool) (s : Option ℕ) (n : ℕ) → ((m : ℕ) → s ≡ Some m → m ≤ 15) → if_solid t s ≡ Some n → n ≤ 15
if_solid-le true s n h e = h n e
if_solid-le false s n h e = absurd (cc)

measured-le : (b : Plan) → IsWhole b → (level : Pos → ℕ) (p : Pos) (facing : Side) → ((q : Pos) → level q ≤ 15) → measured b level p facing ≤ 15
unfolding measured
measured-le b w level p facing h =
    direct-le (direct_at b p facing) (or_far (far_at b p facing) (input b level p facing)) (strength-le b w (beside facing p))
    (far-le (far_at b p facing) (input b level p facing)
    (λ n e. if_solid-le (solid_at b (beside facing p)) (strength_at b (beside facing (beside facing p))) n (strength-le b w (beside facing (beside facing p))) e)
    (input-le b level p facing h))

back-le : (b : Plan) → IsWhole b → (level : Pos → ℕ) (p : Pos) (block : Block) → ((q : Pos) → level q ≤ 15) → (readings_of b level p block).back ≤ 15
back-le b w level p (Torch lit) h = read-le b level p Down h
back-le b w level p (WallTorch facing lit) h = read-le b level p (opposite facing) h
back-le b w level p (Lamp lit) h = around-le b level p h
back-le b w level p (Trapdoor facing top powered) h = around-le b level p h
back-le b w level p (Note powered) h = around-le b level p h
back-le b w level p (Repeater delay facing powered) h = input-le b level p facing h
back-le b w level p (Comparator facing subtract) h = measured-le b w level p facing h
back-le b w level p (Wire n e s west power) h = h p
back-le b w level p _ h = omega arith

back_at-le : (b : Plan) → IsWhole b → (given : Pos → ℕ) → ((q : Pos) → given q ≤ 15) → (p : Pos) → (readings_at b (levels b given (wire_powers b given)) p).back ≤ 15
unfolding readings_at
back_at-le b w given h p = back-le b w (levels b given (wire_powers b given)) p (block_at b p) (levels-le b given h)

on-le : (t : Bool) → on_if t ≤ 1
on-le true = omega arith
on-le false = omega arith

cell_with-value : (value : ℕ) (tick : Option Pending) → (cell_with value tick).value ≡ value
cell_with-value value None = refl
cell_with-value value (Some tick) = refl

weight-le : (name power : ℕ) → is_listed (Weighted name power) ≡ true → power ≤ 15
weight-le name power l = omega (arith, ltb-true power 16 (and_parts (is_weighted (kind_at name)) (nat_lt power 16) l).1)

-- a stored value is in the bounds of its component
stored_value-le : (block : Block) (marked : Bool) (level : ℕ) (tick : Option Pending) → is_listed block ≡ true → level ≤ 15 →
    BoundedAt (role_of marked block) (stored_of (role_of marked block) (stored_value block level) tick)
stored_value-le (Lever face facing powered) marked level tick l h = rw (cell_with-value (on_if powered) tick) (on-le powered)
stored_value-le (Button name face facing powered) marked level tick l h = rw (cell_with-value (on_if powered) tick) (on-le powered)
stored_value-le (Plate name powered) marked level tick l h = rw (cell_with-value (on_if powered) tick) (on-le powered)
stored_value-le (Weighted name power) marked level tick l h = rw (cell_with-value power tick) (weight-le name power l)
stored_value-le (Torch lit) marked level tick l h = rw (cell_with-value (on_if lit) tick) (on-le lit)
stored_value-le (WallTorch facing lit) marked level tick l h = rw (cell_with-value (on_if lit) tick) (on-le lit)
stored_value-le (Repeater delay facing powered) marked level tick l h = rw (cell_with-value (on_if powered) tick) (on-le powered)
stored_value-le (Comparator facing subtract) marked level tick l h = rw (cell_with-value level tick) h
stored_value-le (Lamp lit) marked level tick l h = rw (cell_with-value (on_if lit) tick) (on-le lit)
stored_value-le (Trapdoor facing top powered) marked level tick l h = rw (cell_with-value (on_if powered) tick) (on-le powered)
stored_value-le (Note powered) marked level tick l h = rw (cell_with-value (on_if powered) tick) (on-le powered)
stored_value-le (Wire n e s w power) true level tick l h = rw (cell_with-value 0 tick) (omega arith)
stored_value-le (Wire n e s w power) false level tick l h = tt
stored_value-le _ marked level tick l h = tt

stored-le : (b : Plan) → IsWhole b → (marks : List Pos) (p : Pos) → BoundedAt (role_at b marks p) (stored b marks p)
unfolding role_at stored
stored-le b w marks p = stored_value-le (block_at b p) (is_marked marks p) (entry b b.levels 0 p) (waiting_at b.pending p) (w.listed p) (level-le b w p)

base_of-le : (block : Block) → base_of block ≤ 15
base_of-le RedstoneBlock = omega arith
base_of-le _ = omega arith

base-le : (b : Plan) (p : Pos) → base_at b p ≤ 15
unfolding base_at
base-le b p = base_of-le (block_at b p)

pub world_bounded : (b : Plan) → IsWhole b → (marks : List Pos) → IsBoundedCircuit (world_circuit b marks)
world_bounded b w marks = record {
  begin = stored-le b w marks;
  base = base-le b;
  back = λ given h p. back_at-le b w given h p;
}
