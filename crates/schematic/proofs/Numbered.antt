-- The entries of a palette by their numbers.
use Rattle.std.proofs.Common.{◌≡◌, ◌≢◌, ℕ, ◌+◌, ◌<◌, ℤ, List, [], ◌∷◌, ◌++◌, length, take, drop, Option, Some, None, Bool, true, false, refl, sym, ap, ◌∙◌, subst, inl, inr, Bor, cond}
use Rattle.std.specs.Prelude.{◌||◌, is_some, slice_index_or}
use Rattle.std.specs.Option.{option_or}
use Rattle.std.specs.Ordering.{int_eq}
use Rattle.std.specs.List.{list_any}
use Rattle.std.proofs.Math.ListN.{get_or}
use Rattle.std.proofs.lemmas.List.{take_more, map-append, take-append-drop}
use Rattle.std.proofs.lemmas.List.Folds.{list_any-append}
use Rattle.std.proofs.lemmas.Bool.{cases_Bool}
use Rattle.std.proofs.lemmas.Bool.Decides.{Decides-int_eq}
use Rattle.nbt.specs.declared.trees.Field.{Field}
use Rattle.nbt.specs.Plain.{PlainField, plain_field}
use Rattle.block_table.specs.declared.Block.{Block}
use Rattle.block_table.specs.BlockText.{block_of}
use Rattle.schematic.specs.Palette.{number_of, has_number, clash, block_or_air, block_numbered}
use Rattle.schematic.specs.Code.{plain_entries}

-- one entry more
pub taken_more : (es : List (Bor Field)) (i : ℕ) (f : Bor Field) → i < length es → f ≡ slice_index_or es i f → plain_entries (take (i + 1) es) ≡ plain_entries (take i es) ++ plain_field f.now ∷ []
taken_more es i f h e =
    ap plain_entries (take_more es i f h) ∙ map-append (λ (g : Bor Field). plain_field g.now) (take i es) (get_or es i f ∷ [])
    ∙ ap (λ (g : Bor Field). plain_entries (take i es) ++ plain_field g.now ∷ []) (sym e)

any_found : (n : ℤ) (es : List PlainField) → is_some (block_numbered es n) ≡ list_any (has_number n) es
any_found n [] = refl
any_found n (e ∷ es) = elim (cases_Bool (has_number n e)) [ inl h ↦ rw h refl | inr h ↦ rw h (any_found n es) ]

clash-more : (es : List PlainField) (e : PlainField) → clash (es ++ e ∷ []) ≡ (clash es || list_any (has_number (number_of e)) es)
clash-more [] e = refl
clash-more (d ∷ es) e =
    rw (list_any-append (λ (other : PlainField). has_number (number_of other) d) es (e ∷ []), clash-more es e)
    (shift (list_any (λ (other : PlainField). has_number (number_of other) d) es) (has_number (number_of e) d) (clash es) (list_any (has_number (number_of e)) es))
  where
    shift : (a b c d : Bool) → ((a || (b || false)) || (c || d)) ≡ ((a || c) || (b || d))
    shift true b c d = refl
    shift false true true d = refl
    shift false true false d = refl
    shift false false c d = refl

clash-from : (es fs : List PlainField) → clash es ≡ true → clash (es ++ fs) ≡ true
clash-from [] fs h = absurd (cc)
clash-from (e ∷ es) fs h = elim (cases_Bool (list_any (λ (other : PlainField). has_number (number_of other) e) es)) [
  | inl k ↦ rw (list_any-append (λ (other : PlainField). has_number (number_of other) e) es fs, k) refl
  | inr k ↦ (let rest : clash es ≡ true = rw k at h in rw (clash-from es fs rest) (last (list_any (λ (other : PlainField). has_number (number_of other) e) (es ++ fs))))
]
  where
    last : (b : Bool) → (b || true) ≡ true
    last true = refl
    last false = refl

-- an entry whose number was known
pub clash_found : (es fs : List PlainField) (e : PlainField) → is_some (block_numbered es (number_of e)) ≡ true → clash ((es ++ e ∷ []) ++ fs) ≡ true
clash_found es fs e h = clash-from (es ++ e ∷ []) fs (clash-more es e ∙ ap (λ (b : Bool). clash es || b) (sym (any_found (number_of e) es) ∙ h) ∙ last (clash es))
  where
    last : (b : Bool) → (b || true) ≡ true
    last true = refl
    last false = refl

-- an entry whose number is new
pub clash_none : (es : List PlainField) (e : PlainField) → clash es ≡ false → is_some (block_numbered es (number_of e)) ≡ false → clash (es ++ e ∷ []) ≡ false
clash_none es e h k = clash-more es e ∙ ap (λ (b : Bool). b || list_any (has_number (number_of e)) es) h ∙ sym (any_found (number_of e) es) ∙ k

same_int : (a b : ℤ) → int_eq a b ≡ true → a ≡ b
same_int a b h = (Decides-int_eq a b).0 h

other_int : (a b : ℤ) → int_eq a b ≡ false → a ≢ b
other_int a b h e = let yes = (Decides-int_eq a b).1 e in cc

turned : (a b : ℤ) → int_eq a b ≡ int_eq b a
turned a b = elim (cases_Bool (int_eq a b)) [
  | inl h ↦ rw (same_int a b h) refl
  | inr h ↦ elim (cases_Bool (int_eq b a)) [ inl k ↦ absurd (other_int a b h (sym (same_int b a k))) | inr k ↦ h ∙ sym k ]
]

block_more : (es : List PlainField) (e : PlainField) (q : ℤ) → block_numbered (es ++ e ∷ []) q ≡ option_or (block_numbered es q) (cond (has_number q e) (Some (block_or_air (block_of e.0))) None)
block_more [] e q = elim (cases_Bool (has_number q e)) [ inl h ↦ rw h refl | inr h ↦ rw h refl ]
block_more (d ∷ es) e q = elim (cases_Bool (has_number q d)) [ inl h ↦ rw h refl | inr h ↦ rw h (block_more es e q) ]

not_found : (o : Option Block) → is_some o ≡ false → o ≡ None
not_found None h = refl
not_found (Some b) h = absurd (cc)

-- one number more
pub block_put : (es : List PlainField) (e : PlainField) (b : Block) (old new : ℤ → Option Block) → ((q : ℤ) → old q ≡ block_numbered es q) → b ≡ block_or_air (block_of e.0) → is_some (block_numbered es (number_of e)) ≡ false →
    ((q : ℤ) → new q ≡ cond (int_eq (number_of e) q) (Some b) (old q)) → (q : ℤ) → new q ≡ block_numbered (es ++ e ∷ []) q
block_put es e b old new h block none put q = elim (cases_Bool (int_eq (number_of e) q)) [
  | inl same ↦ (let is : number_of e ≡ q = same_int (number_of e) q same in
      let nothing : block_numbered es q ≡ None = not_found (block_numbered es q) (subst (λ (n : ℤ). is_some (block_numbered es n) ≡ false) is none) in
      put q ∙ ap (λ (t : Bool). cond t (Some b) (old q)) same ∙ ap Some block
      ∙ sym (block_more es e q ∙ ap (λ (o : Option Block). option_or o (cond (has_number q e) (Some (block_or_air (block_of e.0))) None)) nothing
      ∙ ap (λ (t : Bool). cond t (Some (block_or_air (block_of e.0))) None) (turned q (number_of e) ∙ same)))
  | inr other ↦ put q ∙ ap (λ (t : Bool). cond t (Some b) (old q)) other ∙ h q
      ∙ sym (block_more es e q ∙ ap (λ (t : Bool). option_or (block_numbered es q) (cond t (Some (block_or_air (block_of e.0))) None)) (turned q (number_of e) ∙ other) ∙ or_none (block_numbered es q))
]
  where
    or_none : (o : Option Block) → option_or o None ≡ o
    or_none None = refl
    or_none (Some x) = refl

-- what was taken, the entry, and what comes behind it
pub whole_again : (es : List (Bor Field)) (i : ℕ) (f : Bor Field) → i < length es → f ≡ slice_index_or es i f →
    plain_entries es ≡ (plain_entries (take i es) ++ plain_field f.now ∷ []) ++ plain_entries (drop (i + 1) es)
whole_again es i f h e =
    ap plain_entries (sym (take-append-drop (i + 1) es)) ∙ map-append (λ (g : Bor Field). plain_field g.now) (take (i + 1) es) (drop (i + 1) es)
    ∙ ap (λ (ps : List PlainField). ps ++ plain_entries (drop (i + 1) es)) (taken_more es i f h e)
