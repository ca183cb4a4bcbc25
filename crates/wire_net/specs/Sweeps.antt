-- Sweeps in place: the powers stay between those of the rounds and the right ones.
use Rattle.std.specs.Prelude.{◌≡◌, ℕ, zero, suc, ◌+◌, ◌<◌, ◌≤◌, List, length, slice_index, refl}
use Rattle.std.proofs.Common.{replicate, add-one, subst, set, sym, ◌∙◌, arith, inl, inr}
use Rattle.std.proofs.lemmas.Bool.{cases_lt}
use Rattle.std.proofs.lemmas.List.{length-set, get_or-set_same, get_or-set_other}
use Rattle.std.proofs.Math.ListN.{get_or-map, get_or-eq_default}
use Rattle.std.proofs.lemmas.List.{ext_get_or}
use Rattle.wire_net.specs.Net.{Cell, no_cell, cell_at, power_under, IsRight, IsBounded, after, right_powers}
use Rattle.wire_net.specs.Laws.{nat_same, power-at, power_under-cap, right-at, after-rises, length-after, right_powers_right}

pub record IsBetween (net : List Cell) (k i : ℕ) (p : List ℕ) : Type 0 where
  pub long : length p ≡ length net
  pub done : (j : ℕ) → j < i → slice_index (after (suc k) net) j ≤ slice_index p j
  pub rest : (j : ℕ) → slice_index (after k net) j ≤ slice_index p j
  pub below : (j : ℕ) → slice_index p j ≤ slice_index (right_powers net) j

pub between_start : (net : List Cell) (p : List ℕ) → length p ≡ length net → ((j : ℕ) → slice_index p j ≡ 0) → IsBetween net 0 0 p
unfolding after
between_start net p l z = record {
  long = l;
  done = λ j h. absurd (omega arith);
  rest = λ j. omega (arith, get_or-map {B = ℕ} (λ (c : Cell). 0) net j no_cell);
  below = λ j. omega (arith, z j);
}

pub between_next : (net : List Cell) (k i : ℕ) (p : List ℕ) → length net ≤ i → IsBetween net k i p → IsBetween net (k + 1) 0 p
between_next net k i p l b = rw add-one (record {
  long = b.long;
  done = λ j h. absurd (omega arith);
  rest = λ j. elim (cases_lt j (length net)) [
    | inl h ↦ b.done j (omega arith)
    | inr h ↦ omega (arith, get_or-eq_default (after (suc k) net) 0 {n = j} (omega (arith, length-after net (suc k))))
  ];
  below = b.below;
})

pub between_end : (net : List Cell) (k : ℕ) (p : List ℕ) → IsBounded net → 15 ≡ k → IsBetween net k 0 p → IsRight net p
unfolding right_powers
between_end net k p bounded e b0 =
    let b : IsBetween net 15 0 p = rw e b0 in
    let same : right_powers net ≡ p = ext_get_or 0 (right_powers net) p (length-after net 15 ∙ sym b.long) (λ i h. omega (arith, b.rest i, b.below i)) in
    subst (λ (xs : List ℕ). IsRight net xs) same (right_powers_right net bounded)

module _ (net : List Cell) (k i : ℕ) (p : List ℕ) (bounded : IsBounded net) (b : IsBetween net k i p) where
  written : slice_index (after (suc k) net) i ≤ power_under p (cell_at net i)
  unfolding after
  written = omega (arith, power-at net (after k net) i, power_under-cap (after k net) p 0 (λ j. omega (arith, b.rest j)) (cell_at net i))

  written_below : power_under p (cell_at net i) ≤ slice_index (right_powers net) i
  written_below = omega (arith, right-at net (right_powers net) (right_powers_right net bounded) i, power_under-cap p (right_powers net) 0 (λ j. omega (arith, b.below j)) (cell_at net i))

  pub between_stay : slice_index p i ≡ power_under p (cell_at net i) → IsBetween net k (i + 1) p
  between_stay e = record {
    long = b.long;
    done = λ j l. elim (nat_same j i) [ inl s ↦ rw s (omega (arith, written, e)) | inr n ↦ b.done j (omega arith) ];
    rest = b.rest;
    below = b.below;
  }

  pub between_step : i < length net → IsBetween net k (i + 1) (set p i (power_under p (cell_at net i)))
  between_step h = record {
    long = length-set p i (power_under p (cell_at net i)) ∙ b.long;
    done = λ j l. elim (nat_same j i) [
      | inl e ↦ rw e (rw (get_or-set_same p i (power_under p (cell_at net i)) 0 (omega (arith, b.long))) written)
      | inr n ↦ rw (get_or-set_other p i j (power_under p (cell_at net i)) 0 n) (b.done j (omega arith))
    ];
    rest = λ j. elim (nat_same j i) [
      | inl e ↦ rw e (rw (get_or-set_same p i (power_under p (cell_at net i)) 0 (omega (arith, b.long))) (omega (arith, written, after-rises net k i)))
      | inr n ↦ rw (get_or-set_other p i j (power_under p (cell_at net i)) 0 n) (b.rest j)
    ];
    below = λ j. elim (nat_same j i) [
      | inl e ↦ rw e (rw (get_or-set_same p i (power_under p (cell_at net i)) 0 (omega (arith, b.long))) written_below)
      | inr n ↦ rw (get_or-set_other p i j (power_under p (cell_at net i)) 0 n) (b.below j)
    ];
  }

pub zeros : (n j : ℕ) → slice_index (replicate n 0) j ≡ 0
zeros zero j = refl
zeros (suc n) zero = refl
zeros (suc n) (suc j) = zeros n j
