-- A text cut at a byte.
use Rattle.std.proofs.Common.{◌≡◌, ℕ, suc, ◌+◌, ◌≤◌, List, [], ◌∷◌, length, take, drop, Some, None, Bool, refl, arith, inl, inr}
use Rattle.std.specs.Prelude.{◌==◌, position, nat_lt}
use Rattle.std.specs.List.{position_or_len, slice_split}
use Rattle.std.proofs.lemmas.List.Splits.{slice_split_first}
use Rattle.std.proofs.lemmas.Bool.{cases_Bool}
use Rattle.std.proofs.lemmas.Bool.Decides.{nat_tests}
use Rattle.block_table.specs.StateText.{parts}

no_place : (p : ℕ → Bool) (xs : List ℕ) → length xs ≤ position_or_len p xs → slice_split p xs ≡ xs ∷ []
no_place p [] h = refl
no_place p (x ∷ xs) h = elim (cases_Bool (p x)) [
  | inl e ↦ absurd (let k : suc (length xs) ≤ 0 = rw e at h in omega arith)
  | inr e ↦ rw (e, no_place p xs (let k : suc (length xs) ≤ 1 + position_or_len p xs = rw e at h in omega arith)) refl
]

-- the byte isn't there
pub parts-uncut : (byte : ℕ) (text : List ℕ) → None ≡ position (λ b. b == byte) text → parts byte text ≡ text ∷ []
parts-uncut byte text h = elim (cases_Bool (nat_lt (position_or_len (λ b. b == byte) text) (length text))) [
  | inl e ↦ absurd (let k : None ≡ Some (position_or_len (λ b. b == byte) text) = rw e at h in cc)
  | inr e ↦ no_place (λ b. b == byte) text (grind (arith, nat_tests, e))
]

-- the first such byte stands at this place
pub parts-cut : (byte : ℕ) (text : List ℕ) (place : ℕ) → Some place ≡ position (λ b. b == byte) text → parts byte text ≡ take place text ∷ parts byte (drop (place + 1) text)
parts-cut byte text place h = elim (cases_Bool (nat_lt (position_or_len (λ b. b == byte) text) (length text))) [
  | inl e ↦ (let k : Some place ≡ Some (position_or_len (λ b. b == byte) text) = rw e at h in
      let same : place ≡ position_or_len (λ b. b == byte) text = cc in
      rw same (slice_split_first (λ b. b == byte) text 0 (grind (arith, nat_tests, e))))
  | inr e ↦ absurd (let k : Some place ≡ None = rw e at h in cc)
]

-- a text has a part
pub parts-some : (byte : ℕ) (text : List ℕ) → (first : List ℕ) × ((rest : List (List ℕ)) × (parts byte text ≡ first ∷ rest))
parts-some byte [] = ([], ([], refl))
parts-some byte (b ∷ bs) = elim (cases_Bool (b == byte)) [
  | inl e ↦ ([], (parts byte bs, rw e refl))
  | inr e ↦ (let more = parts-some byte bs in (b ∷ more.0, (more.1.0, rw (e, more.1.1) refl)))
]
