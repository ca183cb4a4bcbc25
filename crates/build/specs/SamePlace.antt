-- When two places are the same.
use Rattle.std.proofs.Common.{◌≡◌, ◌≢◌, true, false, ℤ, pos, negsuc, refl, sym, ◌∙◌, ap, inl, inr}
use Rattle.std.specs.Prelude.{◌&&◌}
use Rattle.std.proofs.lemmas.Bool.{and_parts, cases_Bool, eqb-true, eq-eqb, false≢true}
use Rattle.circuit.specs.declared.Pos.{Pos}
use Rattle.build.specs.Place.{same_int, same_place}

pub int_itself : (a : ℤ) → same_int a a ≡ true
int_itself (pos a) = eq-eqb a a refl
int_itself (negsuc a) = eq-eqb a a refl

pub int_one : (a b : ℤ) → same_int a b ≡ true → a ≡ b
int_one (pos a) (pos b) h = ap pos (eqb-true a b h)
int_one (negsuc a) (negsuc b) h = ap negsuc (eqb-true a b h)
int_one (pos a) (negsuc b) h = absurd (false≢true h)
int_one (negsuc a) (pos b) h = absurd (false≢true h)

-- a place is the same as itself
pub place_itself : (p : Pos) → same_place p p ≡ true
place_itself p = rw (int_itself p.x, int_itself p.y, int_itself p.z) refl

-- places that are the same are one
pub place_one : (p q : Pos) → same_place p q ≡ true → p ≡ q
place_one p q h =
    let a = and_parts (same_int p.x q.x) (same_int p.y q.y && same_int p.z q.z) h in
    let b = and_parts (same_int p.y q.y) (same_int p.z q.z) a.1 in
    λ i. record { x = int_one p.x q.x a.0 i; y = int_one p.y q.y b.0 i; z = int_one p.z q.z b.1 i }

-- places that aren't one aren't the same
pub places_apart : (p q : Pos) → p ≢ q → same_place p q ≡ false
places_apart p q h = elim (cases_Bool (same_place p q)) [ inl e ↦ absurd (h (place_one p q e)) | inr e ↦ e ]

-- it doesn't matter which of two places comes first
pub same_place_either : (p q : Pos) → same_place p q ≡ same_place q p
same_place_either p q = elim (cases_Bool (same_place p q)) [
  | inl e ↦ e ∙ sym (ap (λ (r : Pos). same_place q r) (place_one p q e) ∙ place_itself q)
  | inr e ↦ elim (cases_Bool (same_place q p)) [
    | inl f ↦ absurd (false≢true (sym e ∙ ap (same_place p) (place_one q p f) ∙ place_itself p))
    | inr f ↦ e ∙ sym f
  ]
]
