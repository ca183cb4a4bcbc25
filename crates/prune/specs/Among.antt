-- Which keys are in a list, as a test.
use Rattle.std.proofs.Common.{◌≡◌, ℕ, Bool, true, false, ◌||◌, List, [], ◌∷◌, refl, subst, sym, ◌∙◌, inl, inr}
use Rattle.std.specs.Prelude.{◌==◌}
use Rattle.std.proofs.lemmas.Bool.{cases_Bool, eq-eqb, eqb-true, false≢true}
use Rattle.circuit.specs.Circuit.{Each, Among}

abbrev pub is_among : List ℕ → ℕ → Bool
is_among [] key = false
is_among (one ∷ keys) key = (key == one) || is_among keys key

pub is_among_of : (keys : List ℕ) (key : ℕ) → Among keys key → is_among keys key ≡ true
is_among_of [] key a = absurd a
is_among_of (one ∷ keys) key a = elim (cases_Bool (key == one)) [
  | inl e ↦ rw e refl
  | inr e ↦ rw e (elim a [ inl q ↦ absurd (false≢true (sym e ∙ eq-eqb key one q)) | inr b ↦ is_among_of keys key b ])
]

pub among_of : (keys : List ℕ) (key : ℕ) → is_among keys key ≡ true → Among keys key
among_of [] key h = absurd (false≢true h)
among_of (one ∷ keys) key h = elim (cases_Bool (key == one)) [
  | inl e ↦ inl (eqb-true key one e)
  | inr e ↦ inr (among_of keys key (rw e at h))
]

-- what holds of whatever is in the list holds of each of its keys
pub each_of : (P : ℕ → Type 0) (keys : List ℕ) → ((key : ℕ) → Among keys key → P key) → Each P keys
each_of P [] h = tt
each_of P (key ∷ keys) h = (h key (inl refl), each_of P keys (λ k a. h k (inr a)))

pub each_at : (P : ℕ → Type 0) (keys : List ℕ) (key : ℕ) → Each P keys → Among keys key → P key
each_at P [] key e a = absurd a
each_at P (one ∷ keys) key e a = elim a [ inl q ↦ subst P (sym q) e.0 | inr b ↦ each_at P keys key e.1 b ]
