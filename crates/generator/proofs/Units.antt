-- Units stand in a row.
use Rattle.std.proofs.Common.{◌≡◌, ℕ, ◌+◌, ◌*◌, ◌/◌, ◌%◌, ◌<◌, ◌≤◌, true, length, get_or, refl, ◌∙◌, ap, arith}
use Rattle.std.proofs.lemmas.Bool.{lt-ltb}
use Rattle.std.proofs.lemmas.List.FromFn.{get_or-map-range_with_len, length-map-range_with_len}
use Rattle.std.proofs.Math.Nat.{mul-le-mul}
use Rattle.block_table.specs.declared.Block.TheVariants.{Air}
use Rattle.build.specs.Plan.{Plan, in_box, cell_of, entry, block_at}
use Rattle.build.specs.Places.{row_mod, row_div, entry-inside}
use Rattle.generator.specs.UnitCells.{unit_block}
use Rattle.generator.specs.Made.{in_unit, units_of, made_build, place_at}

-- the cell of a place, by its unit
abbrev pub cell_in : (n i x y z : ℕ) → ℕ
cell_in n i x y z = 4 * i + x + (z + y * 10) * (4 * n)

pub cell_in-below : (n i x y z : ℕ) → i < n → x < 4 → y < 3 → z < 10 → cell_in n i x y z < 120 * n
cell_in-below n i x y z hi hx hy hz =
    let rows : (z + y * 10) * (4 * n) ≤ 29 * (4 * n) = mul-le-mul {n₁ = z + y * 10} {m₁ = 4 * n} {n₂ = 29} {m₂ = 4 * n} (omega arith) (omega arith) in
    omega (arith, rows)

-- where the cell is in its unit
pub record IsSpot (n c i x y z : ℕ) : Type 0 where
  pub column : c % (4 * n) ≡ 4 * i + x
  pub row : c / (4 * n) ≡ z + y * 10

pub spot_in : (n i x y z : ℕ) → i < n → x < 4 → IsSpot n (cell_in n i x y z) i x y z
spot_in n i x y z hi hx = record {
  column = row_mod (4 * i + x) (z + y * 10) (4 * n) (omega arith);
  row = row_div (4 * i + x) (z + y * 10) (4 * n) (omega arith);
}

pub in_unit-spot : {A : Type 0} (at : ℕ → ℕ → ℕ → A) (n c i x y z : ℕ) → IsSpot n c i x y z → x < 4 → y < 3 → z < 10 → in_unit at n c ≡ at x y z
in_unit-spot at n c i x y z s hx hy hz =
    let by_x : c % (4 * n) % 4 ≡ x = omega (arith, s.column) in
    let by_y : c / (4 * n) / 10 ≡ y = omega (arith, s.row) in
    let by_z : c / (4 * n) % 10 ≡ z = omega (arith, s.row) in
    ap (λ (k : ℕ). at k (c / (4 * n) / 10) (c / (4 * n) % 10)) by_x
    ∙ ap (λ (k : ℕ). at x k (c / (4 * n) % 10)) by_y
    ∙ ap (λ (k : ℕ). at x y k) by_z

-- what a cell of the units holds
pub units_of-at : {A : Type 0} (at : ℕ → ℕ → ℕ → A) (n i x y z : ℕ) (d : A) → i < n → x < 4 → y < 3 → z < 10 → get_or (units_of at n) (cell_in n i x y z) d ≡ at x y z
units_of-at at n i x y z d hi hx hy hz =
    get_or-map-range_with_len (in_unit at n) 0 (120 * n) (cell_in n i x y z) (cell_in n i x y z) d (cell_in-below n i x y z hi hx hy hz) (omega arith)
    ∙ in_unit-spot at n (cell_in n i x y z) i x y z (spot_in n i x y z hi hx) hx hy hz

pub length-units_of : {A : Type 0} (at : ℕ → ℕ → ℕ → A) (n : ℕ) → length (units_of at n) ≡ 120 * n
length-units_of at n = length-map-range_with_len (in_unit at n) 0 (120 * n)

-- the box of n units
pub record IsBox (n : ℕ) (b : Plan) : Type 0 where
  pub width : b.width ≡ 4 * n
  pub height : b.height ≡ 3
  pub depth : b.depth ≡ 10

pub in_box-unit : (n i x y z X : ℕ) (b : Plan) → IsBox n b → X ≡ 4 * i + x → i < n → x < 4 → y < 3 → z < 10 → in_box b (place_at X y z) ≡ true
unfolding in_box
in_box-unit n i x y z X b box e hi hx hy hz =
    let by_x : X < b.width = omega (arith, box.width) in
    let by_y : y < b.height = omega (arith, box.height) in
    let by_z : z < b.depth = omega (arith, box.depth) in
    rw (lt-ltb X b.width by_x, lt-ltb y b.height by_y, lt-ltb z b.depth by_z) refl

pub cell_of-unit : (n i x y z X : ℕ) (b : Plan) → IsBox n b → X ≡ 4 * i + x → cell_of b (place_at X y z) ≡ cell_in n i x y z
cell_of-unit n i x y z X b box e = rw (box.width, box.depth, e) refl

-- what stands at a place of a unit
pub entry-unit : {A : Type 0} (at : ℕ → ℕ → ℕ → A) (n i x y z X : ℕ) (d : A) (b : Plan) → IsBox n b → X ≡ 4 * i + x → i < n → x < 4 → y < 3 → z < 10 →
    entry b (units_of at n) d (place_at X y z) ≡ at x y z
entry-unit at n i x y z X d b box e hi hx hy hz =
    entry-inside b (units_of at n) d (place_at X y z) (in_box-unit n i x y z X b box e hi hx hy hz)
    ∙ ap (λ (k : ℕ). get_or (units_of at n) k d) (cell_of-unit n i x y z X b box e)
    ∙ units_of-at at n i x y z d hi hx hy hz

pub made_box : (n : ℕ) → IsBox n (made_build n)
unfolding made_build
made_box n = record { width = refl; height = refl; depth = refl }

pub block_at-made : (n i x y z X : ℕ) → X ≡ 4 * i + x → i < n → x < 4 → y < 3 → z < 10 → block_at (made_build n) (place_at X y z) ≡ unit_block x y z
unfolding made_build
block_at-made n i x y z X e hi hx hy hz = entry-unit unit_block n i x y z X Air (made_build n) (made_box n) e hi hx hy hz
