-- Counting the powers that are at least some level, and the greatest of lists that differ at one cell.
use Rattle.std.specs.Prelude.{◌≡◌, ℕ, zero, suc, ◌+◌, ◌-◌, ◌<◌, ◌≤◌, ◌⊎◌, min, List, [], ◌∷◌, length, map, slice_index, set, refl}
use Rattle.std.proofs.Common.{◌≢◌, ◌∙◌, arith, inl, inr}
use Rattle.wire_net.specs.Net.{Cell, cell_at, greatest, power_under, IsBounded}
use Rattle.wire_net.specs.Laws.{nat_same, greatest-below, feeder_gives}
use Rattle.wire_net.specs.WaveSteps.{Has, count_from}
use Rattle.wire_net.proofs.Lists.{at-default}

pub count-set : (l : ℕ) (p : List ℕ) (d v : ℕ) → d < length p → count_from l (set p d v) + min 1 (slice_index p d + 1 - l) ≡ count_from l p + min 1 (v + 1 - l)
count-set l [] d v h = absurd (omega arith)
count-set l (x ∷ p) zero v h = omega arith
count-set l (x ∷ p) (suc d) v h = omega (arith, count-set l p d v (omega arith))

pub count-most : (l : ℕ) (p : List ℕ) → count_from l p ≤ length p
count-most l [] = omega arith
count-most l (x ∷ p) = omega (arith, count-most l p)

pub count-short : (l : ℕ) (p : List ℕ) (d : ℕ) → d < length p → slice_index p d < l → count_from l p < length p
count-short l [] d h s = absurd (omega arith)
count-short l (x ∷ p) zero h s = omega (arith, count-most l p)
count-short l (x ∷ p) (suc d) h s = omega (arith, count-short l p d (omega arith) s)

pub count-some : (l : ℕ) (p : List ℕ) (d : ℕ) → d < length p → l ≤ slice_index p d → 0 < count_from l p
count-some l [] d h s = absurd (omega arith)
count-some l (x ∷ p) zero h s = omega arith
count-some l (x ∷ p) (suc d) h s = omega (arith, count-some l p d (omega arith) s)

pub power-low : (net : List Cell) (p : List ℕ) → IsBounded net → ((e : ℕ) → slice_index p e ≤ 15) → (e : ℕ) → power_under p (cell_at net e) ≤ 15
power-low net p b low e = omega (arith, b e, greatest-below (λ f. slice_index p f - 1) 15 (λ f. omega (arith, low f)) (cell_at net e).feeders)

has-tail : (x : ℕ) (xs : List ℕ) (d : ℕ) → Has xs d → Has (x ∷ xs) d
has-tail x xs d (k, low, h, e) = (suc k, omega arith, omega arith, e)

pub greatest-change : (g h : ℕ → ℕ) (d : ℕ) → ((x : ℕ) → x ≢ d → g x ≡ h x) → (xs : List ℕ) → (greatest (map g xs) ≡ greatest (map h xs)) ⊎ Has xs d
greatest-change g h d same [] = inl refl
greatest-change g h d same (x ∷ xs) = elim (nat_same x d) [
  | inl e ↦ inr (0, omega arith, omega arith, e)
  | inr n ↦ elim (greatest-change g h d same xs) [
    | inl r ↦ inl (omega (arith, same x n, r))
    | inr has ↦ inr (has-tail x xs d has)
  ]
]

pub greatest_each : (g : ℕ → ℕ) (m : ℕ) (xs : List ℕ) → ((x : ℕ) → Has xs x → g x ≤ m) → greatest (map g xs) ≤ m
greatest_each g m [] h = omega arith
greatest_each g m (x ∷ xs) h = omega (arith, h x (0, omega arith, omega arith, refl), greatest_each g m xs (λ y has. h y (has-tail x xs y has)))

pub has-gives : (p : List ℕ) (cell : Cell) (s : ℕ) → Has cell.feeders s → slice_index p s - 1 ≤ power_under p cell
has-gives p cell s (k, low, h, e) = feeder_gives p cell s (k, h, at-default cell.feeders k s h ∙ e)
