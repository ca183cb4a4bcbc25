use Rattle.std.proofs.Common.{◌≡◌, ◌⊎◌, inl, inr, ℕ, zero, suc, List, Option, Some, None, refl, sym, ap, ◌∙◌, subst, replicate}
use Rattle.std.proofs.Math.ListN.{get_or}
use Rattle.schem_write.specs.PaletteTexts.{IsNumber}
use Rattle.schem_write.proofs.numbers.no_numbers.Goals as goal

none_there : (n code : ℕ) → ◌≡◌ {A = Option ℕ} (get_or (replicate n None) code None) None
none_there zero code = refl
none_there (suc n) zero = refl
none_there (suc n) (suc code) = none_there n code

none_or_some : (y : Option ℕ) → (y ≡ None) ⊎ ((k : ℕ) × (y ≡ Some k))
none_or_some None = inl refl
none_or_some (Some k) = inr (k, refl)

pub returns : goal.returns
returns c = λ palette code.
    (let none : Option ℕ = None in
    let empty : c.in_ok-numbers.numbers.items ≡ replicate 65536 none = c.in_ok-numbers.ensures.items_if_clones_equal (λ y h. elim (none_or_some y) [ inl e ↦ e | inr e ↦ absurd (rw e.1 at h) ]) in
    let at : get_or c.in_ok-numbers.numbers.items code None ≡ None = ap (λ (xs : List (Option ℕ)). get_or xs code None) empty ∙ none_there 65536 code in
    subst (IsNumber palette code) (sym at) tt)
