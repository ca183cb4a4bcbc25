use Rattle.std.specs.Prelude.{◌≡◌, ℕ, zero, suc, ◌+◌, ◌-◌, ◌<◌, ◌≤◌, ◌⊎◌, max, List, [], ◌∷◌, length, map, slice_index, slice_index_or, Contains, refl}
use Rattle.std.proofs.Common.{add-one, take, ◌≢◌, sym, ◌∙◌, ap, arith, inl, inr}
use Rattle.std.proofs.lemmas.List.{length-map}
use Rattle.std.proofs.lemmas.Bool.{cases_lt}
use Rattle.std.proofs.Math.ListN.{get_or-map}
use Rattle.std.proofs.lemmas.List.{ext_get_or}
use Rattle.wire_net.specs.Net.{Cell, no_cell, cell_at, greatest, power_under, IsRight, IsBounded, after, right_powers, Reaches, here, onward, IsGreatestReached}

pub nat_same : (a b : ℕ) → (a ≡ b) ⊎ (a ≢ b)
nat_same a b = elim (cases_lt a b) [
  | inl h ↦ inr (omega arith)
  | inr h ↦ elim (cases_lt b a) [ inl k ↦ inr (omega arith) | inr k ↦ inl (omega arith) ]
]

-- ---- the greatest of a list

pub greatest-cap : (f g : ℕ → ℕ) (c : ℕ) → ((x : ℕ) → f x ≤ max (g x) c) → (xs : List ℕ) → greatest (map f xs) ≤ max (greatest (map g xs)) c
greatest-cap f g c h [] = omega arith
greatest-cap f g c h (x ∷ xs) = omega (arith, h x, greatest-cap f g c h xs)

pub at_most_greatest : (xs : List ℕ) (i : ℕ) → slice_index xs i ≤ greatest xs
at_most_greatest [] i = omega arith
at_most_greatest (x ∷ xs) zero = omega arith
at_most_greatest (x ∷ xs) (suc i) = omega (arith, at_most_greatest xs i)

pub greatest_at_most : (xs : List ℕ) (m : ℕ) → ((i : ℕ) → slice_index xs i ≤ m) → greatest xs ≤ m
greatest_at_most [] m h = omega arith
greatest_at_most (x ∷ xs) m h = omega (arith, h 0, greatest_at_most xs m (λ i. h (suc i)))

pub greatest-at : (f : ℕ → ℕ) (xs : List ℕ) (s k : ℕ) → k < length xs → slice_index_or xs k s ≡ s → f s ≤ greatest (map f xs)
greatest-at f [] s k l e = absurd (omega arith)
greatest-at f (x ∷ xs) s zero l e = let h : f x ≡ f s = ap f e in omega arith
greatest-at f (x ∷ xs) s (suc k) l e = let l2 : k < length xs = omega arith in omega (arith, greatest-at f xs s k l2 e)

pub greatest_reached : (f : ℕ → ℕ) (xs : List ℕ) → 0 < greatest (map f xs) → (s : ℕ) × Contains xs s × (greatest (map f xs) ≡ f s)
greatest_reached f [] l = absurd (omega arith)
greatest_reached f (x ∷ xs) l = elim (cases_lt (f x) (greatest (map f xs))) [
  | inr h ↦ (x, (0, omega arith, refl), omega arith)
  | inl h ↦
      let r : (s : ℕ) × Contains xs s × (greatest (map f xs) ≡ f s) = greatest_reached f xs (omega arith) in
      let e : greatest (map f xs) ≡ f (r.0) = r.2 in
      (r.0, (suc (r.1.0), (let b : r.1.0 < length xs = r.1.1 in omega arith), r.1.2), omega arith)
]

-- ---- one round

pub power-at : (net : List Cell) (p : List ℕ) (i : ℕ) → slice_index (map (power_under p) net) i ≡ power_under p (cell_at net i)
power-at net p i = get_or-map (power_under p) net i no_cell

pub right-at : (net : List Cell) (p : List ℕ) → IsRight net p → (i : ℕ) → slice_index p i ≡ power_under p (cell_at net i)
right-at net p r i = ap (λ (xs : List ℕ). slice_index xs i) r ∙ power-at net p i

pub right_where : (net : List Cell) (p : List ℕ) → length p ≡ length net → ((j : ℕ) → j < length net → slice_index p j ≡ power_under p (cell_at net j)) → IsRight net p
right_where net p long each =
    ext_get_or 0 p (map (power_under p) net) (long ∙ sym (length-map net (power_under p)))
    (λ j h. each j (omega arith) ∙ sym (power-at net p j))

pub power_under-cap : (p q : List ℕ) (c : ℕ) → ((i : ℕ) → slice_index p i ≤ max (slice_index q i) c) → (cell : Cell) → power_under p cell ≤ max (power_under q cell) (c - 1)
power_under-cap p q c h cell =
    omega (arith, greatest-cap (λ f. slice_index p f - 1) (λ f. slice_index q f - 1) (c - 1) (λ f. omega (arith, h f)) cell.feeders)

pub greatest-below : (f : ℕ → ℕ) (m : ℕ) → ((x : ℕ) → f x ≤ m) → (xs : List ℕ) → greatest (map f xs) ≤ m
greatest-below f m h [] = omega arith
greatest-below f m h (x ∷ xs) = omega (arith, h x, greatest-below f m h xs)

-- ---- right powers are at most 15, and there is at most one list of them

pub right_bounded : (net : List Cell) (p : List ℕ) → IsBounded net → IsRight net p → (i : ℕ) → slice_index p i ≤ 15
right_bounded net p b r i =
    let m : ℕ = greatest p in
    let below : (j : ℕ) → slice_index p j ≤ max 15 (greatest p - 1) =
    λ j. omega (arith, right-at net p r j, b j, greatest-below (λ f. slice_index p f - 1) (greatest p - 1) (λ f. omega (arith, at_most_greatest p f)) (cell_at net j).feeders) in
    omega (arith, at_most_greatest p i, greatest_at_most p (max 15 (greatest p - 1)) below)

right-cap : (net : List Cell) (p q : List ℕ) → IsBounded net → IsRight net p → IsRight net q → (k i : ℕ) → slice_index p i ≤ max (slice_index q i) (15 - k)
right-cap net p q b rp rq zero i = omega (arith, right_bounded net p b rp i)
right-cap net p q b rp rq (suc k) i =
    omega (arith, right-at net p rp i, right-at net q rq i, power_under-cap p q (15 - k) (right-cap net p q b rp rq k) (cell_at net i))

pub right_unique : (net : List Cell) (p q : List ℕ) → IsBounded net → IsRight net p → IsRight net q → p ≡ q
right_unique net p q b rp rq =
    let lp : length p ≡ length net = ap length rp ∙ length-map net (power_under p) in
    let lq : length q ≡ length net = ap length rq ∙ length-map net (power_under q) in
    ext_get_or 0 p q (omega arith) (λ i h. omega (arith, right-cap net p q b rp rq 15 i, right-cap net q p b rq rp 15 i))

-- ---- fifteen rounds give it

pub after-rises : (net : List Cell) (k i : ℕ) → slice_index (after k net) i ≤ max (slice_index (after (suc k) net) i) 0
unfolding after
after-rises net zero i = omega (arith, get_or-map {B = ℕ} (λ (c : Cell). 0) net i no_cell)
after-rises net (suc k) i =
    omega (arith, power-at net (after k net) i, power-at net (after (suc k) net) i, power_under-cap (after k net) (after (suc k) net) 0 (after-rises net k) (cell_at net i))

after-cap : (net : List Cell) → IsBounded net → (k i : ℕ) → slice_index (after (suc k) net) i ≤ max (slice_index (after k net) i) (15 - k)
unfolding after
after-cap net b zero i =
    omega (arith, power-at net (after 0 net) i, b i, greatest-below (λ f. slice_index (after 0 net) f - 1) 0 (λ f. omega (arith, get_or-map {B = ℕ} (λ (c : Cell). 0) net f no_cell)) (cell_at net i).feeders)
after-cap net b (suc k) i =
    omega (arith, power-at net (after k net) i, power-at net (after (suc k) net) i, power_under-cap (after (suc k) net) (after k net) (15 - k) (after-cap net b k) (cell_at net i))

pub length-after : (net : List Cell) (k : ℕ) → length (after k net) ≡ length net
unfolding after
length-after net zero = length-map net (λ (c : Cell). 0)
length-after net (suc k) = length-map net (power_under (after k net))

after-more : (net : List Cell) (k : ℕ) → after (suc k) net ≡ map (power_under (after k net)) net
unfolding after
after-more net k = refl

pub right_powers_right : (net : List Cell) → IsBounded net → IsRight net (right_powers net)
unfolding right_powers
right_powers_right net b =
    let same : after 15 net ≡ after (suc 15) net =
    ext_get_or 0 (after 15 net) (after (suc 15) net) (length-after net 15 ∙ sym (length-after net (suc 15)))
    (λ i h. omega (arith, after-rises net 15 i, after-cap net b 15 i)) in
    same ∙ after-more net 15

-- ---- least distances

pub feeder_gives : (p : List ℕ) (cell : Cell) (s : ℕ) → Contains cell.feeders s → slice_index p s - 1 ≤ power_under p cell
feeder_gives p cell s c = omega (arith, greatest-at (λ f. slice_index p f - 1) cell.feeders s c.0 c.1 c.2)

reached_below : {net : List Cell} {w s n : ℕ} (p : List ℕ) → IsRight net p → Reaches net w s n → slice_index p s - n ≤ slice_index p w
reached_below p r here = omega arith
reached_below {s = s} p r (onward {v = v} path c) =
    omega (arith, right-at _ p r v, feeder_gives p (cell_at _ v) s c, reached_below p r path)

first_step : {net : List Cell} {w v s n : ℕ} → Contains (cell_at net w).feeders v → Reaches net v s n → Reaches net w s (suc n)
first_step c here = onward here c
first_step c (onward path d) = onward (first_step c path) d

record Source (net : List Cell) (p : List ℕ) (w : ℕ) : Type 0 where
  place : ℕ
  steps : ℕ
  path : Reaches net w place steps
  gives : slice_index p w + steps ≡ (cell_at net place).base

source_of : (net : List Cell) (p : List ℕ) → IsBounded net → IsRight net p → (d w : ℕ) → 15 ≤ slice_index p w + d → 0 < slice_index p w → Source net p w
source_of net p b r zero w far some =
    record {
      place = w;
      steps = 0;
      path = here;
      gives = omega (arith, right-at net p r w, b w, greatest-below (λ f. slice_index p f - 1) 14 (λ f. omega (arith, right_bounded net p b r f)) (cell_at net w).feeders);
    }
source_of net p b r (suc d) w far some =
    elim (cases_lt (cell_at net w).base (greatest (map (λ f. slice_index p f - 1) (cell_at net w).feeders))) [
      | inr h ↦ record { place = w; steps = 0; path = here; gives = omega (arith, right-at net p r w) }
      | inl h ↦
          let t : (s : ℕ) × Contains (cell_at net w).feeders s × (greatest (map (λ f. slice_index p f - 1) (cell_at net w).feeders) ≡ slice_index p s - 1)
          = greatest_reached (λ f. slice_index p f - 1) (cell_at net w).feeders (omega arith) in
          let e : slice_index p w + 1 ≡ slice_index p (t.0) = omega (arith, right-at net p r w, t.2) in
          let next : Source net p (t.0) = source_of net p b r d t.0 (omega arith) (omega arith) in
          record { place = next.place; steps = suc next.steps; path = first_step {net = net} {w = w} {v = t.0} {s = next.place} {n = next.steps} t.1 next.path; gives = omega (arith, e, next.gives) }
    ]

pub least_distances : (net : List Cell) (p : List ℕ) → IsBounded net → IsRight net p → (w : ℕ) → IsGreatestReached net w (slice_index p w)
least_distances net p b r w = record {
  above = λ s n d. omega (arith, reached_below p r d.reached, right-at net p r s);
  reached = λ some.
      let from : Source net p w = source_of net p b r 15 w (omega arith) some in
      (from.place, from.steps, (record { reached = from.path; least = λ m path. omega (arith, reached_below p r path, right-at net p r from.place, from.gives) }), omega (arith, from.gives));
}

-- ---- a loop over the feeders

greatest-suc : (f : ℕ → ℕ) (xs : List ℕ) (i : ℕ) → i < length xs → greatest (map f (take (suc i) xs)) ≡ max (greatest (map f (take i xs))) (f (slice_index xs i))
greatest-suc f [] i h = absurd (omega arith)
greatest-suc f (x ∷ xs) zero h = omega arith
greatest-suc f (x ∷ xs) (suc i) h = omega (arith, greatest-suc f xs i (omega arith))

pub greatest-more : (f : ℕ → ℕ) (xs : List ℕ) (i : ℕ) → i < length xs → greatest (map f (take (i + 1) xs)) ≡ max (greatest (map f (take i xs))) (f (slice_index xs i))
greatest-more f xs i h = rw add-one (greatest-suc f xs i h)
