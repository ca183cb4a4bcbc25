-- The first bad line of a script.
use Rattle.std.proofs.Common.{◌≡◌, ℕ, zero, suc, ◌+◌, ◌<◌, ◌≤◌, List, [], ◌∷◌, length, Option, Some, None, refl, ◌∙◌, ap, inl, inr, arith}
use Rattle.std.specs.Prelude.{Result, Ok, Err, option_map}
use Rattle.std.specs.List.{filter_map, range_with_len}
use Rattle.std.proofs.lemmas.Bool.{cases_order}
use Rattle.script.specs.declared.ScriptKind.{ScriptKind}
use Rattle.script.specs.declared.ScriptRefusal.{ScriptRefusal}
use Rattle.script.specs.declared.ScriptRefusal.TheVariants.{Line}
use Rattle.script.specs.declared.lines.Said.{Said}
use Rattle.script.specs.Scripts.{acts_in, marks_in, kind_at, bad_lines, first_or, meaning_of}

filter_map-none : {Y : Type 0} (f : ℕ → Option Y) (a n : ℕ) → ((k : ℕ) → a ≤ k → k < a + n → f k ≡ None) → filter_map f (range_with_len a n) ≡ []
filter_map-none f a zero h = refl
filter_map-none f a (suc n) h =
    rw (h a (omega arith) (omega arith)) (filter_map-none f (a + 1) n (λ k low high. h k (omega arith) (omega arith)))

filter_map-first : {Y : Type 0} (f : ℕ → Option Y) (a n k : ℕ) (y : Y) → a ≤ k → k < a + n → ((j : ℕ) → a ≤ j → j < k → f j ≡ None) → f k ≡ Some y →
    (later : List Y) × (filter_map f (range_with_len a n) ≡ y ∷ later)
filter_map-first f a zero k y low high before here = absurd (omega arith)
filter_map-first f a (suc n) k y low high before here = elim (cases_order a k) [
  | inl e ↦ let found : f a ≡ Some y = ap f e ∙ here in (filter_map f (range_with_len (a + 1) n), rw found refl)
  | inr o ↦ elim o [
    | inl l ↦
        let later = filter_map-first f (a + 1) n k y (omega arith) (omega arith) (λ j low high. before j (omega arith) high) here in
        let none : f a ≡ None = before a (omega arith) l in
        (later.0, rw none later.1)
    | inr g ↦ absurd (omega arith)
  ]
]

-- no line is bad
pub meaning_of-good : (said : List (Result Said ScriptKind)) (n : ℕ) → n ≡ length said → ((k : ℕ) → k < n → kind_at said k ≡ None) → meaning_of said ≡ Ok (record { marks = marks_in said; acts = acts_in said })
unfolding meaning_of bad_lines
meaning_of-good said n e good =
    ap (λ (bad : List ScriptRefusal). first_or bad (record { marks = marks_in said; acts = acts_in said }))
    (filter_map-none (λ k. option_map (Line (k + 1)) (kind_at said k)) 0 (length said) (λ k low high. ap (λ (kind : Option ScriptKind). option_map (Line (k + 1)) kind) (good k (omega arith))))

-- the first bad line
pub meaning_of-bad : (said : List (Result Said ScriptKind)) (k : ℕ) (kind : ScriptKind) → k < length said → ((j : ℕ) → j < k → kind_at said j ≡ None) → kind_at said k ≡ Some kind →
    meaning_of said ≡ Err (Line (k + 1) kind)
unfolding meaning_of bad_lines
meaning_of-bad said k kind below good bad =
    let refusal : ℕ → Option ScriptRefusal = λ j. option_map (Line (j + 1)) (kind_at said j) in
    let found = filter_map-first refusal 0 (length said) k (Line (k + 1) kind) (omega arith) (omega arith)
    (λ j low high. ap (λ (bad : Option ScriptKind). option_map (Line (j + 1)) bad) (good j high))
    (ap (λ (bad : Option ScriptKind). option_map (Line (k + 1)) bad) bad) in
    ap (λ (bad : List ScriptRefusal). first_or bad (record { marks = marks_in said; acts = acts_in said })) found.1
