-- The cell of a place, coordinate by coordinate.
use Rattle.std.proofs.Common.{◌≡◌, ℕ, ◌+◌, ◌*◌, ◌<◌, ◌≤◌, ℤ, pos, negsuc, Bool, true, false, Option, Some, None, cond, refl, sym, ◌∙◌, ap, arith, inl, inr}
use Rattle.std.specs.Prelude.{◌&&◌, nat_lt, ◌<ℤ◌}
use Rattle.std.proofs.lemmas.Bool.{ltb-true, lt-ltb, le-ltb, cases_Bool}
use Rattle.std.proofs.lemmas.Int.{ints}
use Rattle.std.proofs.Math.Nat.{mul-le-mul}
use Rattle.circuit.specs.declared.Pos.{Pos}
use Rattle.build.specs.Plan.{Plan, fits, natural, in_box, cell_of, found_cell}
use Rattle.build.specs.Coordinate.{placed}

-- the cell at these coordinates, where each is there
abbrev pub cell_by : Plan → Option ℕ → Option ℕ → Option ℕ → Option ℕ
cell_by b (Some x) (Some y) (Some z) = Some (x + (z + y * b.depth) * b.width)
cell_by b _ _ _ = None

placed-fits : (n : ℕ) (z : ℤ) → placed n z ≡ cond (fits n z) (Some (natural z)) None
unfolding placed
placed-fits n (pos k) = refl
placed-fits n (negsuc k) = refl

found_cell-by : (b : Plan) (p : Pos) → found_cell b p ≡ cell_by b (placed b.width p.x) (placed b.height p.y) (placed b.depth p.z)
unfolding found_cell in_box
found_cell-by b p =
    rw (placed-fits b.width p.x, placed-fits b.height p.y, placed-fits b.depth p.z)
    (by_tests b p (fits b.width p.x) (fits b.height p.y) (fits b.depth p.z))
  where
    by_tests : (b : Plan) (p : Pos) (x y z : Bool) → ◌≡◌ {A = Option ℕ} (cond (x && y && z) (Some (cell_of b p)) None) (cell_by b (cond x (Some (natural p.x)) None) (cond y (Some (natural p.y)) None) (cond z (Some (natural p.z)) None))
    by_tests b p true true true = refl
    by_tests b p true true false = refl
    by_tests b p true false z = refl
    by_tests b p false y z = refl

-- where the coordinates were found
pub found-when : (b : Plan) (p : Pos) (x y z : Option ℕ) → x ≡ placed b.width p.x → y ≡ placed b.height p.y → z ≡ placed b.depth p.z → cell_by b x y z ≡ found_cell b p
found-when b p x y z e f g =
    ap (λ (t : Option ℕ). cell_by b t y z) e ∙ ap (λ (t : Option ℕ). cell_by b (placed b.width p.x) t z) f
    ∙ ap (λ (t : Option ℕ). cell_by b (placed b.width p.x) (placed b.height p.y) t) g ∙ sym (found_cell-by b p)

placed-some : (n k : ℕ) → k < n → placed n (pos k) ≡ Some k
unfolding placed
placed-some n k h = rw (lt-ltb k n h) refl

placed-none : (n k : ℕ) → n ≤ k → placed n (pos k) ≡ None
unfolding placed
placed-none n k h = rw (le-ltb k n h) refl

pub placed_negative : (n : ℕ) (z : ℤ) → z <ℤ pos 0 → None ≡ placed n z
unfolding placed
placed_negative n (pos k) h = absurd (omega (arith, ints))
placed_negative n (negsuc k) h = refl

pub placed_within : (n k : ℕ) (z : ℤ) → pos k ≡ z → k < n → Some k ≡ placed n z
placed_within n k z e h = sym (placed-some n k h) ∙ ap (placed n) e

pub placed_beyond : (n k : ℕ) (z : ℤ) → pos k ≡ z → n ≤ k → None ≡ placed n z
placed_beyond n k z e h = sym (placed-none n k h) ∙ ap (placed n) e

placed_below : (n k : ℕ) (z : ℤ) → placed n z ≡ Some k → k < n
unfolding placed
placed_below n k (pos j) e = elim (cases_Bool (nat_lt j n)) [
  | inl h ↦ let f : ◌≡◌ {A = Option ℕ} (Some j) (Some k) = rw h at e in let g : j ≡ k = cc in omega (arith, ltb-true j n h)
  | inr h ↦ let f : ◌≡◌ {A = Option ℕ} None (Some k) = rw h at e in absurd (cc)
]
placed_below n k (negsuc j) e = absurd (cc)

-- the bounds of the sums and products on the way
pub coordinate_small : (n k : ℕ) (z : ℤ) → n < 65536 → Some k ≡ placed n z → k < 65536
coordinate_small n k z h e = omega (arith, placed_below n k z (sym e))

pub small_product : (a b : ℕ) → a < 65536 → b < 65536 → a * b ≤ 4294836225
small_product a b h k = omega (arith, mul-le-mul {n₁ = a} {m₁ = b} {n₂ = 65535} {m₂ = 65535} (omega arith) (omega arith))

pub large_product : (a b : ℕ) → a ≤ 4294901760 → b < 65536 → a * b ≤ 281474976710656
large_product a b h k = let e : b ≤ 65536 = omega arith in omega (arith, mul-le-mul {n₁ = a} {m₁ = b} {n₂ = 4294901760} {m₂ = 65536} h e)
