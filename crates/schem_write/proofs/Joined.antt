-- Lists that grow at their end.
use Rattle.std.proofs.Common.{◌≡◌, ℕ, ◌+◌, ◌<◌, List, [], ◌∷◌, ◌++◌, map, take, length, Result, Ok, Err, OnOk, sym, ap, ◌∙◌}
use Rattle.std.proofs.Math.ListN.{get_or}
use Rattle.std.specs.List.{flat_map}
use Rattle.std.proofs.lemmas.List.{append_assoc, append-nil, take_more, map-append}
use Rattle.std.proofs.lemmas.Grind.{flat_map-append}

pub two_more : {A : Type 0} (old p q : List A) (a b : A) → p ≡ old ++ a ∷ [] → q ≡ p ++ b ∷ [] → q ≡ old ++ (a ∷ b ∷ [])
two_more old p q a b h k = k ∙ ap (λ xs. xs ++ b ∷ []) h ∙ append_assoc old (a ∷ []) (b ∷ [])

pub more_behind : {A : Type 0} (old p q xs : List A) (a : A) → p ≡ old ++ xs → q ≡ p ++ a ∷ [] → q ≡ old ++ (xs ++ a ∷ [])
more_behind old p q xs a h k = k ∙ ap (λ ys. ys ++ a ∷ []) h ∙ append_assoc old xs (a ∷ [])

pub three_more : {A : Type 0} (old p q r : List A) (a b c : A) → p ≡ old ++ a ∷ [] → q ≡ p ++ b ∷ [] → r ≡ q ++ c ∷ [] → r ≡ old ++ (a ∷ b ∷ c ∷ [])
three_more old p q r a b c h k l = more_behind old q r (a ∷ b ∷ []) c (two_more old p q a b h k) l

pub five_more : {A : Type 0} (old p q r s t : List A) (a b c d e : A) → p ≡ old ++ a ∷ [] → q ≡ p ++ b ∷ [] → r ≡ q ++ c ∷ [] → s ≡ r ++ d ∷ [] → t ≡ s ++ e ∷ [] → t ≡ old ++ (a ∷ b ∷ c ∷ d ∷ e ∷ [])
five_more old p q r s t a b c d e h k l m n =
    more_behind old s t (a ∷ b ∷ c ∷ d ∷ []) e (more_behind old r s (a ∷ b ∷ c ∷ []) d (three_more old p q r a b c h k l) m) n

-- what is made of the items so far, with one item more
pub flat_map-more : {A B : Type 0} (f : A → List B) (xs : List A) (i : ℕ) (x : A) → i < length xs → x ≡ get_or xs i x → flat_map f (take (i + 1) xs) ≡ flat_map f (take i xs) ++ f x
flat_map-more f xs i x h e =
    ap (flat_map f) (take_more xs i x h) ∙ flat_map-append f (take i xs) (get_or xs i x ∷ []) ∙ ap (λ ys. flat_map f (take i xs) ++ ys) (append-nil (f (get_or xs i x)) ∙ ap f (sym e))

pub on_ok_then : {T E : Type 0} (r : Result T E) (P Q : Type 0) → (P → Q) → OnOk r P → OnOk r Q
on_ok_then (Ok x) P Q f p = f p
on_ok_then (Err e) P Q f p = tt

-- a mapped list that grows
pub map-more : {A B : Type 0} (g : A → B) (done next : List A) (x : A) → next ≡ done ++ x ∷ [] → map g next ≡ map g done ++ g x ∷ []
map-more g done next x h = ap (map g) h ∙ map-append g done (x ∷ [])
