-- What a function finds at one more item of a list.
use Rattle.std.proofs.Common.{◌≡◌, ℕ, ◌+◌, ◌<◌, List, [], ◌∷◌, ◌++◌, length, get_or, take, Option, Some, None, refl, ap, sym, ◌∙◌, append_assoc}
use Rattle.std.specs.List.{filter_map}
use Rattle.std.specs.Option.{option_to_list}
use Rattle.std.proofs.lemmas.List.{take_more}
use Rattle.std.proofs.lemmas.List.Elements.{filter_map-append}

found_one : {X Y : Type 0} (f : X → Option Y) (x : X) (found : Option Y) → f x ≡ found → filter_map f (x ∷ []) ≡ option_to_list found
found_one f x None e = rw e refl
found_one f x (Some y) e = rw e refl

found_next : {X Y : Type 0} (f : X → Option Y) (xs : List X) (i : ℕ) (x : X) → i < length xs → filter_map f (take (i + 1) xs) ≡ filter_map f (take i xs) ++ option_to_list (f (get_or xs i x))
found_next f xs i x h = ap (filter_map f) (take_more xs i x h) ∙ filter_map-append f (take i xs) (get_or xs i x ∷ []) ∙ ap (λ ys. filter_map f (take i xs) ++ ys) (found_one f (get_or xs i x) (f (get_or xs i x)) refl)

-- so a list that holds what was found before, and then what was found up to an item, holds what is found up to the next once that was added
pub found_more : {X Y : Type 0} (f : X → Option Y) (xs : List X) (i : ℕ) (x : X) (before now next : List Y) (found : Option Y) → i < length xs →
    now ≡ before ++ filter_map f (take i xs) → found ≡ f (get_or xs i x) → next ≡ now ++ option_to_list found → next ≡ before ++ filter_map f (take (i + 1) xs)
found_more f xs i x before now next found h is one added =
    added ∙ (λ j. is j ++ option_to_list (one j)) ∙ append_assoc before (filter_map f (take i xs)) (option_to_list (f (get_or xs i x))) ∙ ap (λ ys. before ++ ys) (sym (found_next f xs i x h))
