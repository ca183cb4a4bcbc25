-- What is marked after one mark more.
use Rattle.std.proofs.Common.{◌≡◌, Bool, true, false, List, [], ◌∷◌, refl, sym, ◌∙◌, ap, inl, inr}
use Rattle.std.specs.Prelude.{◌||◌}
use Rattle.std.proofs.lemmas.Bool.{cases_Bool}
use Rattle.circuit.specs.declared.Pos.{Pos}
use Rattle.build.specs.Place.{same_place, is_before}
use Rattle.build.specs.SamePlace.{place_one}
use Rattle.build.specs.Marks.{is_marked, with_mark}

twice : (b c : Bool) → (b || c) ≡ (b || (b || c))
twice true c = refl
twice false c = refl

exchange : (a b c : Bool) → (a || (b || c)) ≡ (b || (a || c))
exchange true true c = refl
exchange true false c = refl
exchange false b c = refl

-- the place that was marked, and all that were
pub marked-with_mark : (q p : Pos) (marks : List Pos) → is_marked (with_mark q marks) p ≡ (same_place p q || is_marked marks p)
marked-with_mark q p [] = refl
marked-with_mark q p (r ∷ marks) = elim (cases_Bool (is_before r q)) [
  | inl e ↦ rw (e, marked-with_mark q p marks) (exchange (same_place p r) (same_place p q) (is_marked marks p))
  | inr e ↦ elim (cases_Bool (same_place q r)) [
    | inl f ↦ rw (e, f) (twice (same_place p r) (is_marked marks p) ∙ ap (λ (s : Pos). same_place p s || (same_place p r || is_marked marks p)) (sym (place_one q r f)))
    | inr f ↦ rw (e, f) refl
  ]
]
