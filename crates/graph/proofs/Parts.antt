-- A list whose first items were changed, one after another.
use Rattle.std.proofs.Common.{◌≡◌, ℕ, zero, suc, ◌<◌, ◌≤◌, List, [], ◌∷◌, refl, ap, arith, map, set, length, get_or}

-- the first so many items are changed
abbrev pub part : {A : Type 0} → (A → A) → ℕ → List A → List A
part f zero xs = xs
part f (suc i) [] = []
part f (suc i) (x ∷ xs) = f x ∷ part f i xs

-- one more
pub part-suc : {A : Type 0} (f : A → A) (i : ℕ) (xs : List A) (d : A) → i < length xs → set (part f i xs) i (f (get_or xs i d)) ≡ part f (suc i) xs
part-suc f i [] d h = absurd (omega arith)
part-suc f zero (x ∷ xs) d h = refl
part-suc f (suc i) (x ∷ xs) d h = ap (λ ys. f x ∷ ys) (part-suc f i xs d (omega arith))

-- the next one still stands as it was
pub get_or-part : {A : Type 0} (f : A → A) (i : ℕ) (xs : List A) (d : A) → get_or (part f i xs) i d ≡ get_or xs i d
get_or-part f zero xs d = refl
get_or-part f (suc i) [] d = refl
get_or-part f (suc i) (x ∷ xs) d = get_or-part f i xs d

-- in the end all
pub part_all : {A : Type 0} (f : A → A) (i : ℕ) (xs : List A) → length xs ≤ i → part f i xs ≡ map f xs
part_all f zero [] h = refl
part_all f zero (x ∷ xs) h = absurd (omega arith)
part_all f (suc i) [] h = refl
part_all f (suc i) (x ∷ xs) h = ap (λ ys. f x ∷ ys) (part_all f i xs (omega arith))
