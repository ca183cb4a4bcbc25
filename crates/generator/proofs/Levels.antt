-- The outputs of the comparators are stored one after the other, from west to east.
use Rattle.std.proofs.Common.{◌≡◌, ℕ, ◌+◌, ◌*◌, ◌/◌, ◌%◌, ◌<◌, ◌≤◌, pos, true, false, cond, List, [], length, set, refl, sym, ◌∙◌, ap, inl, inr, arith}
use Rattle.std.specs.Prelude.{◌&&◌, ◌==◌, nat_lt, map, replicate}
use Rattle.std.specs.List.{range_with_len}
use Rattle.std.proofs.lemmas.Bool.{and_parts, cases_Bool, eqb-true, eqb-false, ltb-true, ltb-false, lt-ltb, le-ltb}
use Rattle.std.proofs.lemmas.List.{length-set, length-replicate, get_or-replicate, get_or-set_same, get_or-set_other}
use Rattle.std.proofs.lemmas.List.FromFn.{get_or-map-range_with_len, length-map-range_with_len, fill_by_all}
use Rattle.std.proofs.Math.Nat.{mod-add-div}
use Rattle.block_table.specs.declared.Block.TheVariants.{Air}
use Rattle.build.specs.Plan.{Plan, block_at}
use Rattle.build.specs.Edits.{fresh, is_comparator, with_level}
use Rattle.generator.specs.UnitCells.{unit_cells, unit_block, unit_level}
use Rattle.generator.specs.Made.{in_unit, units_of, made_build, place_at}
use Rattle.generator.proofs.Units.{IsBox, cell_in, cell_in-below, spot_in, in_unit-spot, entry-unit, cell_of-unit}

-- what is stored in a cell once the outputs of the first i units are
abbrev pub level_by : ℕ → ℕ → ℕ → ℕ
level_by n i c = cond (nat_lt (c % (4 * n)) (4 * i)) (in_unit unit_level n c) 0

abbrev pub levels_by : ℕ → ℕ → List ℕ
levels_by n i = map (level_by n i) (range_with_len 0 (120 * n))

-- the build once the outputs of the first i units are stored
abbrev pub build_by : ℕ → ℕ → Plan
build_by n i = record {
  width = 4 * n;
  height = 3;
  depth = 10;
  blocks = units_of unit_block n;
  levels = levels_by n i;
  pending = [];
  data_version = pos 0;
}

box_by : (n i : ℕ) → IsBox n (build_by n i)
box_by n i = record { width = refl; height = refl; depth = refl }

levels_by-none : (n : ℕ) → replicate (120 * n) 0 ≡ levels_by n 0
levels_by-none n =
    fill_by_all (level_by n 0) (replicate (120 * n) 0) (120 * n) 0 (length-replicate (120 * n) 0)
    (λ k h. get_or-replicate (120 * n) k 0 0 h ∙ sym (rw (le-ltb (k % (4 * n)) 0 (omega arith)) refl))

-- before the first
pub build_by-none : (n : ℕ) → fresh (4 * n) 3 10 (pos 0) (units_of unit_block n) ≡ build_by n 0
build_by-none n =
    let cells : 4 * n * 30 ≡ 120 * n = omega arith in
    ap (λ (levels : List ℕ). record (build_by n 0) { levels = levels }) (ap (λ (k : ℕ). replicate k 0) cells ∙ levels_by-none n)

levels_by-all : (n : ℕ) → 1 ≤ n → levels_by n n ≡ units_of unit_level n
levels_by-all n some =
    fill_by_all (in_unit unit_level n) (levels_by n n) (120 * n) 0 (length-map-range_with_len (level_by n n) 0 (120 * n))
    (λ k h. get_or-map-range_with_len (level_by n n) 0 (120 * n) k k 0 h (omega arith) ∙ rw (lt-ltb (k % (4 * n)) (4 * n) (omega arith)) refl)

-- after the last
pub build_by-all : (n : ℕ) → 1 ≤ n → build_by n n ≡ made_build n
unfolding made_build
build_by-all n some = ap (λ (levels : List ℕ). record (build_by n n) { levels = levels }) (levels_by-all n some)

-- the comparator of a unit
pub comparator_there : (n i X : ℕ) → i < n → X ≡ 4 * i + 1 → is_comparator (block_at (build_by n i) (place_at X 0 9)) ≡ true
unfolding unit_block unit_cells
comparator_there n i X h e = ap is_comparator (entry-unit unit_block n i 1 0 9 X Air (build_by n i) (box_by n i) e h (omega arith) (omega arith) (omega arith))

-- only the comparator's place has a level
level_elsewhere : (x y z : ℕ) → (x ≡ 1 → y ≡ 0 → z ≡ 9 → ⊥) → unit_level x y z ≡ 0
unfolding unit_level
level_elsewhere x y z other = elim (cases_Bool ((x == 1) && ((y == 0) && (z == 9)))) [
  | inl e ↦
      let a = and_parts (x == 1) ((y == 0) && (z == 9)) e in
      let b = and_parts (y == 0) (z == 9) a.1 in
      absurd (other (eqb-true x 1 a.0) (eqb-true y 0 b.0) (eqb-true z 9 b.1))
  | inr e ↦ rw e refl
]

-- a cell that is not the comparator's is stored as before
level_by-other : (n i c : ℕ) → i < n → (c ≡ cell_in n i 1 0 9 → ⊥) → level_by n i c ≡ level_by n (i + 1) c
level_by-other n i c h other = elim (cases_Bool (nat_lt (c % (4 * n)) (4 * i))) [
  | inl west ↦ rw (west, lt-ltb (c % (4 * n)) (4 * (i + 1)) (omega (arith, ltb-true (c % (4 * n)) (4 * i) west))) refl
  | inr west ↦ elim (cases_Bool (nat_lt (c % (4 * n)) (4 * (i + 1)))) [
    | inr east ↦ rw (west, east) refl
    | inl east ↦ rw (west, east) (sym (level_elsewhere (c % (4 * n) % 4) (c / (4 * n) / 10) (c / (4 * n) % 10) (apart west east)))
  ]
]
  where
    apart : nat_lt (c % (4 * n)) (4 * i) ≡ false → nat_lt (c % (4 * n)) (4 * (i + 1)) ≡ true → c % (4 * n) % 4 ≡ 1 → c / (4 * n) / 10 ≡ 0 → c / (4 * n) % 10 ≡ 9 → ⊥
    apart west east x y z =
        let low : 4 * i ≤ c % (4 * n) = ltb-false (c % (4 * n)) (4 * i) west in
        let high : c % (4 * n) < 4 * (i + 1) = ltb-true (c % (4 * n)) (4 * (i + 1)) east in
        let column : c % (4 * n) ≡ 4 * i + 1 = omega arith in
        let row : c / (4 * n) ≡ 9 = omega arith in
        let whole : c % (4 * n) + 4 * n * (c / (4 * n)) ≡ c = mod-add-div c (4 * n) in
        let rows : 4 * n * (c / (4 * n)) ≡ 4 * n * 9 = ap (λ (k : ℕ). 4 * n * k) row in
        other (omega arith)

-- that of the comparator
level_by-here : (n i : ℕ) → i < n → level_by n (i + 1) (cell_in n i 1 0 9) ≡ 5
unfolding unit_level
level_by-here n i h =
    let s = spot_in n i 1 0 9 h (omega arith) in
    rw (lt-ltb (cell_in n i 1 0 9 % (4 * n)) (4 * (i + 1)) (omega (arith, s.column)))
    (in_unit-spot unit_level n (cell_in n i 1 0 9) i 1 0 9 s (omega arith) (omega arith) (omega arith))

levels_by-more : (n i : ℕ) → i < n → set (levels_by n i) (cell_in n i 1 0 9) 5 ≡ levels_by n (i + 1)
levels_by-more n i h =
    fill_by_all (level_by n (i + 1)) (set (levels_by n i) here 5) (120 * n) 0 (length-set (levels_by n i) here 5 ∙ long)
    (λ k low. elim (cases_Bool (k == here)) [
      | inl e ↦
          let same : k ≡ here = eqb-true k here e in
          rw same (get_or-set_same (levels_by n i) here 5 0 (omega (arith, long, cell_in-below n i 1 0 9 h (omega arith) (omega arith) (omega arith))) ∙ sym (level_by-here n i h))
      | inr e ↦
          get_or-set_other (levels_by n i) here k 5 0 (eqb-false k here e)
          ∙ get_or-map-range_with_len (level_by n i) 0 (120 * n) k k 0 low (omega arith)
          ∙ level_by-other n i k h (eqb-false k here e)
    ])
  where
    here : ℕ
    here = cell_in n i 1 0 9

    long : length (levels_by n i) ≡ 120 * n
    long = length-map-range_with_len (level_by n i) 0 (120 * n)

-- the output of one unit more
pub build_by-more : (n i X : ℕ) → i < n → X ≡ 4 * i + 1 → with_level (build_by n i) (place_at X 0 9) 5 ≡ build_by n (i + 1)
unfolding with_level
build_by-more n i X h e =
    ap (λ (levels : List ℕ). record (build_by n i) { levels = levels })
    (ap (λ (c : ℕ). set (levels_by n i) c 5) (cell_of-unit n i 1 0 9 X (build_by n i) (box_by n i) e) ∙ levels_by-more n i h)
