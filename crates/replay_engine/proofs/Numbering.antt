-- One cell more has its number.
use Rattle.std.proofs.Common.{◌≡◌, ℕ, suc, ◌+◌, ◌<◌, true, false, List, [], ◌∷◌, ◌++◌, length, refl, sym, ◌∙◌, ap, inl, inr, arith, slice_index}
use Rattle.std.specs.Prelude.{slice_index_or}
use Rattle.std.proofs.lemmas.Bool.{cases_lt, false≢true}
use Rattle.std.proofs.lemmas.List.{length-append, get_or_append_left, get_or_push}
use Rattle.circuit.specs.declared.Pos.{Pos}
use Rattle.build.specs.Plan.{Plan, block_at, place_of}
use Rattle.replay_engine.specs.Things.{is_thing, IsNumberedTo}

-- a thing stands there
pub number_yes : (b : Plan) (i : ℕ) (spots : List Pos) (numbers : List ℕ) (p : Pos) (count : ℕ) → IsNumberedTo b i spots numbers → p ≡ place_of b i → count ≡ length spots + 1 →
    IsNumberedTo b (i + 1) (spots ++ p ∷ []) (numbers ++ count ∷ [])
number_yes b i spots numbers p count w e c = record {
  long = rw (length-append numbers (count ∷ [])) (omega (arith, w.long));
  few = rw (length-append spots (p ∷ [])) (omega (arith, w.few));
  there = there;
  back = back;
  thing = thing;
}
  where
    mine : slice_index (numbers ++ count ∷ []) i ≡ suc (length spots)
    mine = get_or_push numbers count 0 i w.long ∙ omega (arith, c)

    old : (k : ℕ) → k < i → slice_index (numbers ++ count ∷ []) k ≡ slice_index numbers k
    old k h = get_or_append_left numbers (count ∷ []) 0 k (omega (arith, w.long))

    spot_old : (n : ℕ) (d : Pos) → n < length spots → slice_index_or (spots ++ p ∷ []) n d ≡ slice_index_or spots n d
    spot_old n d h = get_or_append_left spots (p ∷ []) d n h

    there : (k n : ℕ) → k < i + 1 → slice_index (numbers ++ count ∷ []) k ≡ suc n → (n < length (spots ++ p ∷ [])) × ((d : Pos) → slice_index_or (spots ++ p ∷ []) n d ≡ place_of b k)
    there k n h f = elim (cases_lt k i) [
      | inl low ↦ (let t = w.there k n low (sym (old k low) ∙ f) in
          (omega (arith, length-append spots (p ∷ []), t.0), λ d. spot_old n d t.0 ∙ t.1 d))
      | inr high ↦ (let same : k ≡ i = omega arith in
          let number : n ≡ length spots = omega (arith, sym f ∙ ap (λ (j : ℕ). slice_index (numbers ++ count ∷ []) j) same ∙ mine) in
          (omega (arith, length-append spots (p ∷ []), number), λ d. get_or_push spots p d n (sym number) ∙ e ∙ ap (place_of b) (sym same)))
    ]

    back : (n : ℕ) → n < length (spots ++ p ∷ []) → (k : ℕ) × (k < i + 1) × (slice_index (numbers ++ count ∷ []) k ≡ suc n) × ((d : Pos) → slice_index_or (spots ++ p ∷ []) n d ≡ place_of b k)
    back n h = elim (cases_lt n (length spots)) [
      | inl low ↦ (let t = w.back n low in
          (t.0, omega (arith, t.1), old t.0 t.1 ∙ t.2, λ d. spot_old n d low ∙ t.3 d))
      | inr high ↦ (let number : n ≡ length spots = omega (arith, length-append spots (p ∷ []), h) in
          (i, omega arith, mine ∙ ap suc (sym number), λ d. get_or_push spots p d n (sym number) ∙ e))
    ]

    thing : (k : ℕ) → k < i + 1 → is_thing (block_at b (place_of b k)) ≡ true → (n : ℕ) × (slice_index (numbers ++ count ∷ []) k ≡ suc n)
    thing k h t = elim (cases_lt k i) [
      | inl low ↦ (let f = w.thing k low t in (f.0, old k low ∙ f.1))
      | inr high ↦ (let same : k ≡ i = omega arith in (length spots, ap (λ (j : ℕ). slice_index (numbers ++ count ∷ []) j) same ∙ mine))
    ]

-- no thing stands there
pub number_no : (b : Plan) (i : ℕ) (spots : List Pos) (numbers : List ℕ) → IsNumberedTo b i spots numbers → is_thing (block_at b (place_of b i)) ≡ false →
    IsNumberedTo b (i + 1) spots (numbers ++ 0 ∷ [])
number_no b i spots numbers w none = record {
  long = rw (length-append numbers (0 ∷ [])) (omega (arith, w.long));
  few = omega (arith, w.few);
  there = there;
  back = λ n h. let t = w.back n h in (t.0, omega (arith, t.1), old t.0 t.1 ∙ t.2, t.3);
  thing = thing;
}
  where
    mine : slice_index (numbers ++ 0 ∷ []) i ≡ 0
    mine = get_or_push numbers 0 0 i w.long

    old : (k : ℕ) → k < i → slice_index (numbers ++ 0 ∷ []) k ≡ slice_index numbers k
    old k h = get_or_append_left numbers (0 ∷ []) 0 k (omega (arith, w.long))

    there : (k n : ℕ) → k < i + 1 → slice_index (numbers ++ 0 ∷ []) k ≡ suc n → (n < length spots) × ((d : Pos) → slice_index_or spots n d ≡ place_of b k)
    there k n h f = elim (cases_lt k i) [
      | inl low ↦ w.there k n low (sym (old k low) ∙ f)
      | inr high ↦ (let same : k ≡ i = omega arith in
          absurd (omega (arith, sym f ∙ ap (λ (j : ℕ). slice_index (numbers ++ 0 ∷ []) j) same ∙ mine)))
    ]

    thing : (k : ℕ) → k < i + 1 → is_thing (block_at b (place_of b k)) ≡ true → (n : ℕ) × (slice_index (numbers ++ 0 ∷ []) k ≡ suc n)
    thing k h t = elim (cases_lt k i) [
      | inl low ↦ (let f = w.thing k low t in (f.0, old k low ∙ f.1))
      | inr high ↦ (let same : k ≡ i = omega arith in
          absurd (false≢true (sym none ∙ ap (λ (j : ℕ). is_thing (block_at b (place_of b j))) (sym same) ∙ t)))
    ]

pub number_start : (b : Plan) → IsNumberedTo b 0 [] []
number_start b = record {
  long = refl;
  few = omega arith;
  there = λ k n h f. absurd (omega arith);
  back = λ n h. absurd (omega arith);
  thing = λ k h t. absurd (omega arith);
}
