-- Lists that are joined piece by piece.
use Rattle.std.proofs.Common.{◌≡◌, ℕ, ◌+◌, ◌<◌, ◌≤◌, List, [], ◌∷◌, ◌++◌, length, get_or, take, map, refl, ap, sym, ◌∙◌, append_assoc}
use Rattle.std.specs.Prelude.{Some, slice_get}
use Rattle.std.specs.List.{flat_map}
use Rattle.std.proofs.lemmas.List.{take_more, take_all, append-nil, map-append}
use Rattle.std.proofs.lemmas.Option.{slice_get_within, get_or_from_slice_get}
use Rattle.std.proofs.lemmas.List.Concat.{flat_map-append}

one_piece : {X Y : Type 0} (f : X → List Y) (xs : List X) (i : ℕ) (d : X) → i < length xs → flat_map f (take (i + 1) xs) ≡ flat_map f (take i xs) ++ f (get_or xs i d)
one_piece f xs i d h =
    ap (flat_map f) (take_more xs i d h) ∙ flat_map-append f (take i xs) (get_or xs i d ∷ []) ∙ ap (λ ys. flat_map f (take i xs) ++ ys) (append-nil (f (get_or xs i d)))

-- what was joined so far, and one piece more
pub joined_more : {X Y : Type 0} (f : X → List Y) (xs : List X) (i : ℕ) (d : X) (before now next piece : List Y) → i < length xs →
    now ≡ before ++ flat_map f (take i xs) → piece ≡ f (get_or xs i d) → next ≡ now ++ piece → next ≡ before ++ flat_map f (take (i + 1) xs)
joined_more f xs i d before now next piece h is one added =
    added ∙ (λ j. is j ++ one j) ∙ append_assoc before (flat_map f (take i xs)) (f (get_or xs i d)) ∙ ap (λ ys. before ++ ys) (sym (one_piece f xs i d h))

pub joined_all : {X Y : Type 0} (f : X → List Y) (xs : List X) (i : ℕ) (before now : List Y) → length xs ≤ i → now ≡ before ++ flat_map f (take i xs) → now ≡ before ++ flat_map f xs
joined_all f xs i before now h is = is ∙ ap (λ ys. before ++ flat_map f ys) (take_all i xs h)

-- each of them brings one
pub ones_joined : {X Y Z : Type 0} (f : Y → Z) (g : X → Y) (xs : List X) → flat_map (λ x. map f (g x ∷ [])) xs ≡ map f (map g xs)
ones_joined f g [] = refl
ones_joined f g (x ∷ xs) = ap (λ zs. f (g x) ∷ zs) (ones_joined f g xs)

pub map_joined : {X Y Z : Type 0} (f : Y → Z) (g : X → List Y) (xs : List X) → flat_map (λ x. map f (g x)) xs ≡ map f (flat_map g xs)
map_joined f g [] = refl
map_joined f g (x ∷ xs) = ap (λ zs. map f (g x) ++ zs) (map_joined f g xs) ∙ sym (map-append f (g x) (flat_map g xs))

-- what was mapped so far, and one more
pub mapped_more : {X Z : Type 0} (f : X → Z) (xs : List X) (i : ℕ) (x : X) (before now next : List Z) → slice_get xs i ≡ Some x →
    now ≡ before ++ map f (take i xs) → next ≡ now ++ map f (x ∷ []) → next ≡ before ++ map f (take (i + 1) xs)
mapped_more f xs i x before now next there is added =
    added ∙ ap (λ zs. zs ++ map f (x ∷ [])) is ∙ append_assoc before (map f (take i xs)) (map f (x ∷ []))
    ∙ ap (λ zs. before ++ zs) (sym (ap (map f) (take_more xs i x (slice_get_within xs i x there) ∙ ap (λ y. take i xs ++ y ∷ []) (get_or_from_slice_get xs i x x there)) ∙ map-append f (take i xs) (x ∷ [])))
