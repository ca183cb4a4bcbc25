-- The numbers of a range that pass a test.
use Rattle.std.proofs.Common.{◌≡◌, ◌≢◌, ℕ, zero, suc, ◌+◌, ◌-◌, ◌<◌, ◌≤◌, ◌==◌, ◌⊎◌, Bool, true, false, if◌then◌else◌, List, [], ◌∷◌, ◌++◌, length, All, Some, None, refl, sym, ◌∙◌, ap, inl, inr, arith}
use Rattle.std.specs.Prelude.{filter}
use Rattle.std.specs.List.{range_with_len}
use Rattle.std.proofs.lemmas.Bool.{cases_Bool, cases_lt, false≢true}
use Rattle.std.proofs.lemmas.Bool.Decides.{nat_tests}
use Rattle.std.proofs.lemmas.List.{append-nil}
use Rattle.std.proofs.lemmas.List.Elements.{All-head, All-tail}
use Rattle.cell_numbers.specs.Numbers.{number_in}

abbrev pub kept : (ℕ → Bool) → ℕ → ℕ → List ℕ
kept test a n = filter test (range_with_len a n)

pub same_kept : (f g : ℕ → Bool) (a n : ℕ) → ((i : ℕ) → a ≤ i → i < a + n → f i ≡ g i) → kept f a n ≡ kept g a n
same_kept f g a zero h = refl
same_kept f g a (suc n) h =
    let here : f a ≡ g a = h a (omega arith) (omega arith) in
    let more : kept f (a + 1) n ≡ kept g (a + 1) n = same_kept f g (a + 1) n (λ i l u. h i (omega arith) (omega arith)) in
    elim (cases_Bool (g a)) [
      | inl e ↦ rw (here ∙ e, e) (ap (λ (xs : List ℕ). a ∷ xs) more)
      | inr e ↦ rw (here ∙ e, e) more
    ]

pub none_kept : (test : ℕ → Bool) (a n : ℕ) → ((i : ℕ) → a ≤ i → test i ≡ false) → kept test a n ≡ []
none_kept test a zero h = refl
none_kept test a (suc n) h = rw (h a (omega arith)) (none_kept test (a + 1) n (λ i l. h i (omega arith)))

-- first those of m numbers, and then those of n more
pub kept-split : (test : ℕ → Bool) (a m n k : ℕ) → m + n ≡ k → kept test a k ≡ kept test a m ++ kept test (a + m) n
kept-split test a zero n k e =
    let same : k ≡ n = omega arith in
    let start : a + 0 ≡ a = omega arith in
    ap (kept test a) same ∙ sym (ap (λ (b : ℕ). kept test b n) start)
kept-split test a (suc m) n zero e = absurd (omega arith)
kept-split test a (suc m) n (suc k) e =
    let start : a + 1 + m ≡ a + suc m = omega arith in
    let more : kept test (a + 1) k ≡ kept test (a + 1) m ++ kept test (a + suc m) n = kept-split test (a + 1) m n k (omega arith) ∙ ap (λ (b : ℕ). kept test (a + 1) m ++ kept test b n) start in
    elim (cases_Bool (test a)) [
      | inl h ↦ rw h (ap (λ (xs : List ℕ). a ∷ xs) more)
      | inr h ↦ rw h more
    ]

pub kept-few : (test : ℕ → Bool) (a n : ℕ) → length (kept test a n) ≤ n
kept-few test a zero = omega arith
kept-few test a (suc n) = elim (cases_Bool (test a)) [
  | inl h ↦ rw h (omega (arith, kept-few test (a + 1) n))
  | inr h ↦ rw h (omega (arith, kept-few test (a + 1) n))
]

-- where nothing passes from m on, a longer range keeps no more
pub kept-longer : (test : ℕ → Bool) (m n : ℕ) → m ≤ n → ((i : ℕ) → m ≤ i → test i ≡ false) → kept test 0 n ≡ kept test 0 m
kept-longer test m n l h =
    kept-split test 0 m (n - m) n (omega arith) ∙ ap (λ (xs : List ℕ). kept test 0 m ++ xs) (none_kept test (0 + m) (n - m) (λ i k. h i (omega arith))) ∙ append-nil (kept test 0 m)

pub kept-either : (test : ℕ → Bool) (m n : ℕ) → ((i : ℕ) → m ≤ i → test i ≡ false) → ((i : ℕ) → n ≤ i → test i ≡ false) → kept test 0 m ≡ kept test 0 n
kept-either test m n h k = elim (cases_lt m n) [
  | inl less ↦ sym (kept-longer test m n (omega arith) h)
  | inr more ↦ kept-longer test n m (omega arith) k
]

-- what is true of all that pass is true of one that passes
pub kept-all : (P : ℕ → Type 0) (test : ℕ → Bool) (a n i : ℕ) → All P (kept test a n) → a ≤ i → i < a + n → test i ≡ true → P i
kept-all P test a zero i all l u e = absurd (omega arith)
kept-all P test a (suc n) i all l u e = elim (cases_Bool (test a)) [
  | inl h ↦ elim (cases_lt a i) [
    | inl less ↦ kept-all P test (a + 1) n i (All-tail P a (kept test (a + 1) n) (rw h at all)) (omega arith) (omega arith) e
    | inr more ↦ (let same : a ≡ i = omega arith in rw (← same) (All-head P a (kept test (a + 1) n) (rw h at all)))
  ]
  | inr h ↦ elim (cases_lt a i) [
    | inl less ↦ kept-all P test (a + 1) n i (rw h at all) (omega arith) (omega arith) e
    | inr more ↦ (let same : a ≡ i = omega arith in absurd (false≢true (sym h ∙ ap test same ∙ e)))
  ]
]

-- ---- numbers

pub differs : (c a : ℕ) → c ≢ a → (c == a) ≡ false
differs c a h = grind (arith, nat_tests, h)

pub number-outside : (test : ℕ → Bool) (a n c : ℕ) → (c < a) ⊎ (a + n ≤ c) → number_in (kept test a n) c ≡ None
number-outside test a zero c h = refl
number-outside test a (suc n) c h =
    let apart : c ≢ a = λ e. elim h [ inl low ↦ omega arith | inr high ↦ omega arith ] in
    let more : number_in (kept test (a + 1) n) c ≡ None = number-outside test (a + 1) n c (elim h [ inl low ↦ inl (omega arith) | inr high ↦ inr (omega arith) ]) in
    elim (cases_Bool (test a)) [
      | inl e ↦ rw (e, differs c a apart, more) refl
      | inr e ↦ rw e more
    ]

pub number-kept : (test : ℕ → Bool) (a n k c : ℕ) → a + k ≡ c → k < n → number_in (kept test a n) c ≡ (if test c then Some (length (kept test a k)) else None)
number-kept test a zero k c e l = absurd (omega arith)
number-kept test a (suc n) zero c e l =
    let same : c ≡ a = omega arith in
    let itself : (a == a) ≡ true = grind (arith, nat_tests) in
    rw same (elim (cases_Bool (test a)) [
      | inl h ↦ rw (h, itself) refl
      | inr h ↦ rw h (number-outside test (a + 1) n a (inl (omega arith)))
    ])
number-kept test a (suc n) (suc k) c e l =
    let apart : (c == a) ≡ false = differs c a (λ f. omega arith) in
    let more : number_in (kept test (a + 1) n) c ≡ (if test c then Some (length (kept test (a + 1) k)) else None) = number-kept test (a + 1) n k c (omega arith) (omega arith) in
    elim (cases_Bool (test a)) [
      | inl h ↦ elim (cases_Bool (test c)) [
        | inl g ↦ rw (h, apart, more, g) refl
        | inr g ↦ rw (h, apart, more, g) refl
      ]
      | inr h ↦ rw h more
    ]
