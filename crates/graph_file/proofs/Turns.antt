-- One element more of a list that is mapped.
use Rattle.std.proofs.Common.{◌≡◌, ℕ, zero, suc, ◌<◌, List, [], ◌∷◌, ◌++◌, length, get_or, take, drop, map, sym, ap, arith}

pub drop_mapped : {A B : Type 0} (f : A → B) (xs : List A) (i : ℕ) (x : A) → i < length xs → x ≡ get_or xs i x → drop i (map f xs) ≡ f x ∷ drop (suc i) (map f xs)
drop_mapped f [] i x h e = absurd (omega arith)
drop_mapped f (y ∷ xs) zero x h e = ap (λ z. f z ∷ map f xs) (sym e)
drop_mapped f (y ∷ xs) (suc i) x h e = drop_mapped f xs i x (omega arith) e

pub take_mapped : {A B : Type 0} (f : A → B) (xs : List A) (i : ℕ) (x : A) → i < length xs → x ≡ get_or xs i x → take (suc i) (map f xs) ≡ take i (map f xs) ++ f x ∷ []
take_mapped f [] i x h e = absurd (omega arith)
take_mapped f (y ∷ xs) zero x h e = ap (λ z. f z ∷ []) (sym e)
take_mapped f (y ∷ xs) (suc i) x h e = ap (λ r. f y ∷ r) (take_mapped f xs i x (omega arith) e)
