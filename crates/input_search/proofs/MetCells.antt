-- Cells that are met by their numbers in a list.
use Rattle.std.proofs.Common.{◌≡◌, ◌≢◌, ℕ, ◌<◌, Bool, true, false, List, [], ◌∷◌, length, get_or, set, Option, Some, None, refl, sym, ◌∙◌, ap, inl, inr, arith, eq-eqb}
use Rattle.std.specs.Prelude.{◌||◌}
use Rattle.std.specs.Option.{option_map_or}
use Rattle.std.proofs.lemmas.Bool.{cases_eq}
use Rattle.std.proofs.lemmas.List.{get_or-set_same, get_or-set_other}
use Rattle.cell_numbers.specs.Numbers.{number_in}
use Rattle.input_search.specs.CellLists.{has_cell}
use Rattle.input_search.specs.Rows.{is_met, has_met}
use Rattle.input_search.proofs.CellOrder.{eqb-apart}
use Rattle.input_search.proofs.WireNumbers.{number-there}

-- what was met of the cell of a number
pub has_met-at : (listed : List ℕ) (met : List Bool) (cell number : ℕ) → number_in listed cell ≡ Some number → has_met listed met cell ≡ is_met met number
unfolding has_met
has_met-at listed met cell number e = ap (λ (found : Option ℕ). option_map_or (is_met met) found false) e

has_met-none : (listed : List ℕ) (met : List Bool) (cell : ℕ) → number_in listed cell ≡ None → has_met listed met cell ≡ false
unfolding has_met
has_met-none listed met cell e = ap (λ (found : Option ℕ). option_map_or (is_met met) found false) e

or_false : (t : Bool) → t ≡ (t || false)
or_false true = refl
or_false false = refl

or_true : (t : Bool) → true ≡ (t || true)
or_true true = refl
or_true false = refl

-- one cell more is met
pub met_one : (listed : List ℕ) (old new : List Bool) (cell number : ℕ) → number_in listed cell ≡ Some number → number < length old → new ≡ set old number true
    → (i : ℕ) → has_met listed new i ≡ (has_met listed old i || has_cell (cell ∷ []) i)
met_one listed old new cell number found inside e i = elim (cases_eq i cell) [
  | inl same ↦
      has_met-at listed new i number (ap (number_in listed) same ∙ found) ∙ ap (λ (bs : List Bool). is_met bs number) e ∙ get_or-set_same old number true false inside
      ∙ or_true (has_met listed old i) ∙ ap (λ (t : Bool). has_met listed old i || (t || false)) (sym (eq-eqb i cell same))
  | inr apart ↦ other apart (number_in listed i) refl ∙ or_false (has_met listed old i) ∙ ap (λ (t : Bool). has_met listed old i || (t || false)) (sym (eqb-apart i cell apart))
]
  where
    other : i ≢ cell → (o : Option ℕ) → number_in listed i ≡ o → has_met listed new i ≡ has_met listed old i
    other apart None none = has_met-none listed new i none ∙ sym (has_met-none listed old i none)
    other apart (Some k) some = elim (cases_eq k number) [
      | inl same ↦ absurd (let one = number-there listed i k some in let two = number-there listed cell number found in omega (arith, sym one.1 ∙ ap (λ (n : ℕ). get_or listed n 0) same ∙ two.1, apart))
      | inr differ ↦ has_met-at listed new i k some ∙ ap (λ (bs : List Bool). is_met bs k) e ∙ get_or-set_other old number k true false differ ∙ sym (has_met-at listed old i k some)
    ]
