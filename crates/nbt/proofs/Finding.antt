-- The last field of a name.
use Rattle.std.proofs.Common.{◌≡◌, ◌≢◌, ◌<◌, ◌+◌, ℕ, List, [], ◌∷◌, ◌++◌, length, take, drop, get_or, map, refl, sym, ap, ◌∙◌, arith, Bool, true, false, Option, Some, None}
use Rattle.std.proofs.lemmas.Bool.Decides.{nat_tests}
use Rattle.std.proofs.lemmas.List.{take-append-drop, drop_more, drop-map}
use Rattle.nbt.specs.declared.trees.Field.{Field}
use Rattle.nbt.specs.Plain.{PlainTree, PlainField, fields_of, plain_field}
use Rattle.nbt.specs.Named.{is_same_name, later_or, last_named}

pub same-self : (s : List ℕ) → is_same_name s s ≡ true
same-self [] = refl
same-self (a ∷ s) = let rest = same-self s in grind (arith, nat_tests)

pub same-is : (s t : List ℕ) → is_same_name s t ≡ true → s ≡ t
same-is [] [] e = refl
same-is [] (b ∷ t) e = cc
same-is (a ∷ s) [] e = cc
same-is (a ∷ s) (b ∷ t) e =
    let heads : a ≡ b = grind (arith, nat_tests) in
    let tails : is_same_name s t ≡ true = grind (arith, nat_tests) in
    let rest = same-is s t tails in
    cc

pub same-not : (s t : List ℕ) → s ≢ t → is_same_name s t ≡ false
same-not s t differ = at (is_same_name s t) refl
  where
    at : (b : Bool) → is_same_name s t ≡ b → is_same_name s t ≡ false
    at true e = absurd (differ (same-is s t e))
    at false e = e

-- what is found behind counts
found-behind : (name : List ℕ) (xs ys : List PlainField) (one : PlainTree) → last_named name (fields_of ys) ≡ Some one → last_named name (fields_of (xs ++ ys)) ≡ Some one
found-behind name [] ys one h = h
found-behind name (x ∷ xs) ys one h = ap (λ (o : Option PlainTree). later_or o (is_same_name x.0 name) x.1) (found-behind name xs ys one h)

pub found-here : (name : List ℕ) (fs later : List PlainField) (i : ℕ) (f : PlainField) → drop i fs ≡ f ∷ later → last_named name (fields_of later) ≡ None → f.0 ≡ name
    → Some f.1 ≡ last_named name (fields_of fs)
found-here name fs later i f at none same =
    let test : is_same_name f.0 name ≡ true = ap (λ (s : List ℕ). is_same_name s name) same ∙ same-self name in
    let here : last_named name (fields_of (drop i fs)) ≡ Some f.1 =
    ap (λ (x : List PlainField). last_named name (fields_of x)) at ∙ ap (λ (o : Option PlainTree). later_or o (is_same_name f.0 name) f.1) none ∙ ap (λ (b : Bool). later_or None b f.1) test in
    sym (ap (λ (x : List PlainField). last_named name (fields_of x)) (sym (take-append-drop i fs)) ∙ found-behind name (take i fs) (drop i fs) f.1 here)

pub none-here : (name : List ℕ) (fs later : List PlainField) (i : ℕ) (f : PlainField) → drop i fs ≡ f ∷ later → last_named name (fields_of later) ≡ None → f.0 ≢ name
    → last_named name (fields_of (drop i fs)) ≡ None
none-here name fs later i f at none differ =
    ap (λ (x : List PlainField). last_named name (fields_of x)) at ∙ ap (λ (o : Option PlainTree). later_or o (is_same_name f.0 name) f.1) none ∙ ap (λ (b : Bool). later_or None b f.1) (same-not f.0 name differ)

-- the fields from one on
pub fields-from : (fs : List Field) (i n : ℕ) (f : Field) → i < length fs → n ≡ i + 1 → f ≡ get_or fs i f → drop i (map plain_field fs) ≡ plain_field f ∷ map plain_field (drop n fs)
fields-from fs i n f low e at =
    drop-map plain_field i fs ∙ ap (map plain_field) (drop_more fs i f low ∙ ap (λ (x : Field). x ∷ drop (i + 1) fs) (sym at)) ∙ ap (λ (k : ℕ). plain_field f ∷ map plain_field (drop k fs)) (sym e)

pub none-from : (name : List ℕ) (fs : List Field) (i : ℕ) → last_named name (fields_of (drop i (map plain_field fs))) ≡ None → last_named name (fields_of (map plain_field (drop i fs))) ≡ None
none-from name fs i h = ap (λ (x : List PlainField). last_named name (fields_of x)) (sym (drop-map plain_field i fs)) ∙ h
