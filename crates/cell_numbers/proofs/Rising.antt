-- The numbers of the cells of a rising list.
use Rattle.std.proofs.Common.{◌≡◌, ℕ, zero, suc, ◌+◌, ◌<◌, ◌≤◌, ◌==◌, Bool, true, false, List, [], ◌∷◌, length, get_or, Option, Some, None, All, AllPairs, refl, sym, ◌∙◌, ap, inl, inr, arith}
use Rattle.std.specs.Prelude.{option_map}
use Rattle.std.specs.List.{range_with_len}
use Rattle.std.proofs.lemmas.Bool.{cases_Bool}
use Rattle.std.proofs.lemmas.Bool.Decides.{nat_tests}
use Rattle.std.proofs.lemmas.List.FromFn.{length-range_with_len, get_or-range_with_len}
use Rattle.std.proofs.lemmas.List.Kept.{AllPairs-filter}
use Rattle.std.proofs.lemmas.List.Elements.{All-nil, All-cons, All-filter}
use Rattle.cell_numbers.specs.Numbers.{number_in}
use Rattle.cell_numbers.proofs.Kept.{kept, differs, number-kept}

equals : (c x : ℕ) → (c == x) ≡ true → c ≡ x
equals c x h = grind (arith, nat_tests, h)

-- the cell of a number is there
pub number-there : (xs : List ℕ) (c n : ℕ) → number_in xs c ≡ Some n → (n < length xs) × ((d : ℕ) → get_or xs n d ≡ c)
number-there [] c n e = absurd (cc)
number-there (x ∷ xs) c n e = elim (cases_Bool (c == x)) [
  | inl h ↦ first n h (rw h at e)
  | inr h ↦ later (number_in xs c) n (λ m f. number-there xs c m f) refl (rw h at e)
]
  where
    first : (n : ℕ) → (c == x) ≡ true → ◌≡◌ {A = Option ℕ} (Some 0) (Some n) → (n < length (x ∷ xs)) × ((d : ℕ) → get_or (x ∷ xs) n d ≡ c)
    first zero h f = (omega arith, λ d. sym (equals c x h))
    first (suc n) h f = absurd (cc)

    later : (o : Option ℕ) (n : ℕ) → ((m : ℕ) → number_in xs c ≡ Some m → (m < length xs) × ((d : ℕ) → get_or xs m d ≡ c)) → number_in xs c ≡ o → option_map suc o ≡ Some n → (n < length (x ∷ xs)) × ((d : ℕ) → get_or (x ∷ xs) n d ≡ c)
    later None n t f g = absurd (cc)
    later (Some m) zero t f g = absurd (cc)
    later (Some m) (suc n) t f g = let same : m ≡ n = cc in let it = t m f in (omega (arith, it.0), λ d. ap (λ (k : ℕ). get_or xs k d) (sym same) ∙ it.1 d)

-- and it has no other number
pub number-back : (xs : List ℕ) → AllPairs (λ i j. i < j) xs → (n d : ℕ) → n < length xs → number_in xs (get_or xs n d) ≡ Some n
number-back [] rises n d h = absurd (omega arith)
number-back (x ∷ xs) rises zero d h = let itself : (x == x) ≡ true = grind (arith, nat_tests) in rw itself refl
number-back (x ∷ xs) rises (suc n) d h =
    let above : x < get_or xs n d = rises 0 (suc n) d (omega arith) h in
    let apart : (get_or xs n d == x) ≡ false = differs (get_or xs n d) x (λ e. omega arith) in
    rw apart (ap (option_map suc) (number-back xs (λ i j e k l. rises (suc i) (suc j) e (omega arith) (omega arith)) n d (omega arith)))

range-rises : (a n : ℕ) → AllPairs (λ i j. i < j) (range_with_len a n)
range-rises a n i j d h k =
    let within : j < n = omega (arith, length-range_with_len a n) in
    omega (arith, get_or-range_with_len a n i d (omega arith), get_or-range_with_len a n j d within)

range-below : (a n m : ℕ) → a + n ≤ m → All (λ i. i < m) (range_with_len a n)
range-below a zero m h = All-nil (λ i. i < m)
range-below a (suc n) m h = All-cons (λ i. i < m) a (range_with_len (a + 1) n) (omega arith) (range-below (a + 1) n m (omega arith))

-- ---- the part of a range that passes a test

pub kept-rises : (test : ℕ → Bool) (a n : ℕ) → AllPairs (λ i j. i < j) (kept test a n)
kept-rises test a n = AllPairs-filter (λ i j. i < j) test (range_with_len a n) (range-rises a n)

pub number-passes : (test : ℕ → Bool) (n c : ℕ) → c < n → test c ≡ true → (i : ℕ) × (number_in (kept test 0 n) c ≡ Some i)
number-passes test n c h e = (length (kept test 0 c), number-kept test 0 n c c (omega arith) h ∙ rw e refl)

pub kept-below : (test : ℕ → Bool) (n : ℕ) → All (λ i. i < n) (kept test 0 n)
kept-below test n = All-filter test (λ i. i < n) (range_with_len 0 n) (range-below 0 n n (omega arith))
