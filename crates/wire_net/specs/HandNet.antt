-- The nets of the tests: each cell has a base power and two feeders, which stand in lists. A cell that
-- feeds itself does so in vain, since its power less one is below its power.
use Rattle.std.specs.Prelude.{◌≡◌, ℕ, zero, suc, ◌+◌, ◌%◌, ◌<◌, min, List, [], ◌∷◌, length, slice_index, set, refl}
use Rattle.std.proofs.Common.{◌≢◌, sym, ap, arith, inl, inr}
use Rattle.std.proofs.lemmas.List.{length-set}
use Rattle.wire_net.specs.Net.{Cell, cell_at, feeders_of, IsBounded, IsClosed, IsRight, WasRight}
use Rattle.wire_net.specs.Laws.{nat_same}

abbrev pub hand_cell : ℕ → ℕ → ℕ → ℕ → Cell
hand_cell n base first second = record { base = min 15 base; feeders = first % n ∷ second % n ∷ [] }

-- the cells from k on, of n cells
pub hand_from : ℕ → ℕ → List ℕ → List ℕ → List ℕ → List Cell
hand_from n k [] firsts seconds = []
hand_from n k (b ∷ bs) firsts seconds = hand_cell n b (slice_index firsts k) (slice_index seconds k) ∷ hand_from n (suc k) bs firsts seconds

abbrev pub hand_net : List ℕ → List ℕ → List ℕ → List Cell
hand_net bs firsts seconds = hand_from (length bs) 0 bs firsts seconds

pub length-hand_from : (n k : ℕ) (bs fs ss : List ℕ) → length (hand_from n k bs fs ss) ≡ length bs
unfolding hand_from
length-hand_from n k [] fs ss = refl
length-hand_from n k (b ∷ bs) fs ss = omega (arith, length-hand_from n (suc k) bs fs ss)

hand_from-at : (n k : ℕ) (bs fs ss : List ℕ) (i : ℕ) → i < length bs → cell_at (hand_from n k bs fs ss) i ≡ hand_cell n (slice_index bs i) (slice_index fs (k + i)) (slice_index ss (k + i))
unfolding hand_from
hand_from-at n k [] fs ss i h = absurd (omega arith)
hand_from-at n k (b ∷ bs) fs ss zero h = let e : k + 0 ≡ k = omega arith in rw e refl
hand_from-at n k (b ∷ bs) fs ss (suc i) h =
    let e : k + suc i ≡ suc k + i = omega arith in
    rw e (hand_from-at n (suc k) bs fs ss i (omega arith))

pub hand-at : (bs fs ss : List ℕ) (i : ℕ) → i < length (hand_net bs fs ss) → cell_at (hand_net bs fs ss) i ≡ hand_cell (length bs) (slice_index bs i) (slice_index fs i) (slice_index ss i)
hand-at bs fs ss i h =
    let e : 0 + i ≡ i = omega arith in
    rw e at (hand_from-at (length bs) 0 bs fs ss i (omega (arith, length-hand_from (length bs) 0 bs fs ss)))

hand_bounded-from : (n k : ℕ) (bs fs ss : List ℕ) → IsBounded (hand_from n k bs fs ss)
unfolding hand_from
hand_bounded-from n k [] fs ss i = omega arith
hand_bounded-from n k (b ∷ bs) fs ss zero = omega arith
hand_bounded-from n k (b ∷ bs) fs ss (suc i) = hand_bounded-from n (suc k) bs fs ss i

pub hand_bounded : (bs fs ss : List ℕ) → IsBounded (hand_net bs fs ss)
hand_bounded bs fs ss = hand_bounded-from (length bs) 0 bs fs ss

two_below : (n a b k : ℕ) → 0 < n → k < 2 → slice_index (a % n ∷ b % n ∷ []) k < n
two_below n a b zero h l = omega arith
two_below n a b (suc zero) h l = omega arith
two_below n a b (suc (suc k)) h l = absurd (omega arith)

hand_closed-from : (n k : ℕ) (bs fs ss : List ℕ) → 0 < n → (i j : ℕ) → j < length (cell_at (hand_from n k bs fs ss) i).feeders → slice_index (cell_at (hand_from n k bs fs ss) i).feeders j < n
unfolding hand_from
hand_closed-from n k [] fs ss some i j h = absurd (omega arith)
hand_closed-from n k (b ∷ bs) fs ss some zero j h = two_below n (slice_index fs k) (slice_index ss k) j some (omega arith)
hand_closed-from n k (b ∷ bs) fs ss some (suc i) j h = hand_closed-from n (suc k) bs fs ss some i j h

pub hand_closed : (bs fs ss : List ℕ) → IsClosed (hand_net bs fs ss)
unfolding hand_from
hand_closed [] fs ss i j h = absurd (omega arith)
hand_closed (b ∷ bs) fs ss i j h =
    omega (arith, hand_closed-from (length (b ∷ bs)) 0 (b ∷ bs) fs ss (omega arith) i j h, length-hand_from (length (b ∷ bs)) 0 (b ∷ bs) fs ss)

hand_feeders-set : (n k : ℕ) (bs fs ss : List ℕ) (c v : ℕ) → feeders_of (hand_from n k bs fs ss) ≡ feeders_of (hand_from n k (set bs c v) fs ss)
unfolding hand_from
hand_feeders-set n k [] fs ss c v = refl
hand_feeders-set n k (b ∷ bs) fs ss zero v = refl
hand_feeders-set n k (b ∷ bs) fs ss (suc c) v = ap (λ (xs : List (List ℕ)). (slice_index fs k % n ∷ slice_index ss k % n ∷ []) ∷ xs) (hand_feeders-set n (suc k) bs fs ss c v)

hand_base-set : (n k : ℕ) (bs fs ss : List ℕ) (c v i : ℕ) → i ≢ c → (cell_at (hand_from n k bs fs ss) i).base ≡ (cell_at (hand_from n k (set bs c v) fs ss) i).base
unfolding hand_from
hand_base-set n k [] fs ss c v i d = refl
hand_base-set n k (b ∷ bs) fs ss zero v zero d = absurd (d refl)
hand_base-set n k (b ∷ bs) fs ss zero v (suc i) d = refl
hand_base-set n k (b ∷ bs) fs ss (suc c) v zero d = refl
hand_base-set n k (b ∷ bs) fs ss (suc c) v (suc i) d = hand_base-set n (suc k) bs fs ss c v i (λ e. d (ap suc e))

-- after one base power has changed
pub hand_changed : (bs fs ss : List ℕ) (c v : ℕ) (p : List ℕ) → IsRight (hand_net bs fs ss) p → WasRight (hand_net (set bs c v) fs ss) p (c ∷ [])
hand_changed bs fs ss c v p right =
    let same : length (set bs c v) ≡ length bs = length-set bs c v in
    rw same (record {
      before = hand_net bs fs ss;
      bounded = hand_bounded bs fs ss;
      right = right;
      feeders = hand_feeders-set (length bs) 0 bs fs ss c v;
      bases = λ i. elim (nat_same i c) [
        | inl e ↦ inr (0, omega arith, sym e)
        | inr n ↦ inl (hand_base-set (length bs) 0 bs fs ss c v i n)
      ];
    })

pub hand_feeders : (bs fs ss : List ℕ) (c v : ℕ) → feeders_of (hand_net bs fs ss) ≡ feeders_of (hand_net (set bs c v) fs ss)
hand_feeders bs fs ss c v =
    let same : length (set bs c v) ≡ length bs = length-set bs c v in
    rw same (hand_feeders-set (length bs) 0 bs fs ss c v)
