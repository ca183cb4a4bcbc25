-- Levels as they are stored.
use Rattle.std.proofs.Common.{◌≡◌, ℕ, zero, suc, ◌-◌, ◌≤◌, List, [], ◌∷◌, ◌++◌, length, get_or, set, take, refl, sym, ap, arith}
use Rattle.std.specs.Prelude.{replicate}
use Rattle.std.proofs.lemmas.List.{take_all, append-nil}
use Rattle.build.specs.Stored.{levels_of}

set-replicate : (n i : ℕ) → ◌≡◌ {A = List ℕ} (set {A = ℕ} (replicate n 0) i 0) (replicate n 0)
set-replicate zero i = refl
set-replicate (suc n) zero = refl
set-replicate (suc n) (suc i) = ap (λ (xs : List ℕ). 0 ∷ xs) (set-replicate n i)

-- a level is set to 0
pub levels_of-set : (n i : ℕ) (xs : List ℕ) → levels_of n (set xs i 0) ≡ set (levels_of n xs) i 0
levels_of-set n i [] = sym (set-replicate n i)
levels_of-set n zero (x ∷ xs) = refl
levels_of-set n (suc i) (x ∷ xs) = refl

get_or-replicate_zero : (n i : ℕ) → ◌≡◌ {A = ℕ} (get_or {A = ℕ} (replicate n 0) i 0) 0
get_or-replicate_zero zero i = refl
get_or-replicate_zero (suc n) zero = refl
get_or-replicate_zero (suc n) (suc i) = get_or-replicate_zero n i

pub get_or-levels_of : (n i : ℕ) (xs : List ℕ) → get_or (levels_of n xs) i 0 ≡ get_or xs i 0
get_or-levels_of n i [] = get_or-replicate_zero n i
get_or-levels_of n i (x ∷ xs) = refl

-- one for each cell
pub levels_of-full : (n : ℕ) (xs : List ℕ) → length xs ≡ n → levels_of n xs ≡ xs
levels_of-full n [] e = ap (λ (k : ℕ). replicate k 0) (sym e)
levels_of-full n (x ∷ xs) e = refl

take-nil : (n : ℕ) → ◌≡◌ {A = List ℕ} (take n []) []
take-nil zero = refl
take-nil (suc n) = refl

-- what is left after it was made as long as there are cells
pub levels_of-filled : (n : ℕ) (xs : List ℕ) → length (levels_of n xs) ≡ n → take n xs ++ replicate (n - length xs) 0 ≡ levels_of n xs
levels_of-filled n [] e =
    let all : n - 0 ≡ n = omega arith in
    rw (take-nil n, all) refl
levels_of-filled n (x ∷ xs) e =
    let none : n - length (x ∷ xs) ≡ 0 = omega (arith, e) in
    let all : length (x ∷ xs) ≤ n = omega (arith, e) in
    rw (none, take_all n (x ∷ xs) all) (append-nil (x ∷ xs))
