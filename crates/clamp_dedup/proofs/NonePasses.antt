-- What fails for all of a list fails for each of it.
use Rattle.std.proofs.Common.{◌≡◌, ℕ, zero, suc, Bool, true, false, ◌||◌, List, [], ◌∷◌, Some, refl, subst}
use Rattle.std.specs.Prelude.{slice_get}
use Rattle.std.specs.List.{list_any}

or_parts : (a b : Bool) → (a || b) ≡ false → (a ≡ false) × (b ≡ false)
or_parts true b e = absurd (cc)
or_parts false b e = (refl, e)

pub none_passes : {X : Type 0} (test : X → Bool) (xs : List X) (index : ℕ) (x : X) → list_any test xs ≡ false → slice_get xs index ≡ Some x → test x ≡ false
none_passes test [] index x none at = absurd (cc)
none_passes test (y ∷ xs) zero x none at = let same : y ≡ x = cc in subst (λ z. test z ≡ false) same (or_parts (test y) (list_any test xs) none).0
none_passes test (y ∷ xs) (suc index) x none at = none_passes test xs index x (or_parts (test y) (list_any test xs) none).1 at
