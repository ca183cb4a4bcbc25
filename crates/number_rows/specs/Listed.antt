-- Lists of numbers, one for each number.
use Rattle.std.specs.Prelude.{◌≡◌, ℕ, zero, suc, ◌+◌, ◌<◌, ◌≤◌, List, [], ◌∷◌, length, slice_index_or, replicate, set, Vec, ◌++◌, refl}
use Rattle.std.specs.declared.alloc.Global.{Global}
use Rattle.std.proofs.Common.{arith, ap, sym, add-one, ◌∙◌}

abbrev pub list_at : List (List ℕ) → ℕ → List ℕ
list_at lists number = slice_index_or lists number []

abbrev pub items_of : List (Vec ℕ Global) → List (List ℕ)
items_of [] = []
items_of (v ∷ vs) = v.items ∷ items_of vs

pub length-items_of : (vs : List (Vec ℕ Global)) → length (items_of vs) ≡ length vs
length-items_of [] = refl
length-items_of (v ∷ vs) = omega (arith, length-items_of vs)

pub items_of-at : (vs : List (Vec ℕ Global)) (i : ℕ) (v : Vec ℕ Global) → i < length vs → v ≡ slice_index_or vs i v → list_at (items_of vs) i ≡ v.items
items_of-at [] i v h e = absurd (omega arith)
items_of-at (w ∷ vs) zero v h e = ap (λ (u : Vec ℕ Global). u.items) (sym e)
items_of-at (w ∷ vs) (suc i) v h e = items_of-at vs i v (omega arith) e

pub items_of-set : (vs : List (Vec ℕ Global)) (i : ℕ) (v : Vec ℕ Global) → items_of (set vs i v) ≡ set (items_of vs) i v.items
items_of-set [] i v = refl
items_of-set (w ∷ vs) zero v = refl
items_of-set (w ∷ vs) (suc i) v = ap (λ (xs : List (List ℕ)). w.items ∷ xs) (items_of-set vs i v)

pub items_of-more : (vs : List (Vec ℕ Global)) (v : Vec ℕ Global) → items_of (vs ++ v ∷ []) ≡ items_of vs ++ v.items ∷ []
items_of-more [] v = refl
items_of-more (w ∷ vs) v = ap (λ (xs : List (List ℕ)). w.items ∷ xs) (items_of-more vs v)

pub replicate-more : {X : Type 0} (n : ℕ) (x : X) → replicate n x ++ x ∷ [] ≡ replicate (n + 1) x
replicate-more zero x = refl
replicate-more (suc n) x = rw add-one (ap (λ ys. x ∷ ys) (replicate-more n x ∙ rw add-one refl))

pub empty-past : (vs : List (Vec ℕ Global)) (i : ℕ) → length vs ≤ i → list_at (items_of vs) i ≡ []
empty-past [] i h = refl
empty-past (v ∷ vs) zero h = absurd (omega arith)
empty-past (v ∷ vs) (suc i) h = empty-past vs i (omega arith)
