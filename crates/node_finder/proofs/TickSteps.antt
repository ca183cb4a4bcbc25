-- Ticks by cells, one tick more.
use Rattle.std.proofs.Common.{◌≡◌, ◌≢◌, ℕ, ◌+◌, ◌-◌, ◌<◌, ◌≤◌, true, false, List, ◌∷◌, length, get_or, drop, subst, Option, Some, None, refl, sym, ◌∙◌, ap, inl, inr, arith}
use Rattle.std.specs.Prelude.{is_some}
use Rattle.std.specs.BTreeMap.{BTreeMap, get, Updates}
use Rattle.std.specs.Ordering.{nat_cmp, is_eq}
use Rattle.std.specs.Cmp.{nat_cmp_is}
use Rattle.std.specs.declared.cmp.Ordering.TheVariants.{Less, Greater}
use Rattle.std.proofs.lemmas.Bool.{cases_Bool, cases_lt, cases_eq}
use Rattle.std.proofs.lemmas.List.{drop_more}
use Rattle.circuit.specs.declared.Pos.{Pos}
use Rattle.build.specs.declared.Pending.{Pending}
use Rattle.build.specs.Place.{same_place}
use Rattle.build.specs.SamePlace.{place_one, place_itself, places_apart}
use Rattle.build.specs.Plan.{Plan, volume, in_box, cell_of, place_of, found_cell}
use Rattle.build.specs.Places.{found-cell_of, found_inside, found-is_some, place_inside, cell-place, place-cell, inside}
use Rattle.build.specs.Roles.{waiting_at}
use Rattle.node_finder.specs.TicksByCell.{AreByCell}

none-some : {A : Type 0} (x : A) → ◌≡◌ {A = Option A} None (Some x) → ⊥
none-some x e = cc

-- a place outside of the box is not that of a cell
outside_apart : (b : Plan) (p : Pos) (cell : ℕ) → found_cell b p ≡ None → cell < volume b → same_place p (place_of b cell) ≡ false
outside_apart b p cell none h = elim (cases_Bool (same_place p (place_of b cell))) [
  | inl same ↦ absurd (none-some (cell_of b (place_of b cell))
      (sym none ∙ ap (found_cell b) (place_one p (place_of b cell) same) ∙ found_inside b (place_of b cell) (place_inside b cell h)))
  | inr apart ↦ apart
]

-- the place of another cell is another place
other_apart : (b : Plan) (p : Pos) (here cell : ℕ) → found_cell b p ≡ Some here → here ≢ cell → same_place p (place_of b cell) ≡ false
other_apart b p here cell found other = elim (cases_Bool (same_place p (place_of b cell))) [
  | inl same ↦ absurd (other (found-cell_of b p here (sym found) ∙ ap (cell_of b) (place_one p (place_of b cell) same) ∙ cell-place b cell))
  | inr apart ↦ apart
]

pub tick_outside : (b : Plan) (tick : Pending) (rest : List Pending) (m : BTreeMap ℕ Pending) → found_cell b tick.pos ≡ None → AreByCell b rest m → AreByCell b (tick ∷ rest) m
tick_outside b tick rest m none before = λ cell h. before cell h ∙ rw (outside_apart b tick.pos cell none h) refl

is_at-other : (here cell : ℕ) → here ≢ cell → is_eq (nat_cmp here cell) ≡ false
is_at-other here cell n = elim (cases_lt here cell) [
  | inl lt ↦ ap is_eq (sym (nat_cmp_is here cell Less lt))
  | inr ge ↦ let gt : cell < here = omega arith in ap is_eq (sym (nat_cmp_is here cell Greater gt))
]

found_in_box : (b : Plan) (p : Pos) (here : ℕ) → found_cell b p ≡ Some here → in_box b p ≡ true
found_in_box b p here found = sym (found-is_some b p) ∙ ap is_some found

pub tick_inside : (b : Plan) (tick : Pending) (rest : List Pending) (m n : BTreeMap ℕ Pending) (here : ℕ) → found_cell b tick.pos ≡ Some here
    → Updates nat_cmp m n here (Some tick) → AreByCell b rest m → AreByCell b (tick ∷ rest) n
tick_inside b tick rest m n here found u before = λ cell h. elim (cases_eq here cell) [
  | inl same ↦
      let at : place_of b cell ≡ tick.pos = ap (place_of b) (sym same ∙ found-cell_of b tick.pos here (sym found)) ∙ place-cell b tick.pos (inside b tick.pos (found_in_box b tick.pos here found)) in
      let is : same_place tick.pos (place_of b cell) ≡ true = ap (same_place tick.pos) at ∙ place_itself tick.pos in
      ap (get nat_cmp n) (sym same) ∙ u.1 ∙ rw is refl
  | inr other ↦ u.2 cell (is_at-other here cell other) ∙ before cell h ∙ rw (other_apart b tick.pos here cell found other) refl
]

-- going back through the ticks
pub ticks_more : (b : Plan) (pending : List Pending) (index : ℕ) (d : Pending) (m n : BTreeMap ℕ Pending) → 0 < index → index ≤ length pending
    → ((rest : List Pending) → AreByCell b rest m → AreByCell b (get_or pending (index - 1) d ∷ rest) n) → AreByCell b (drop index pending) m → AreByCell b (drop (index - 1) pending) n
ticks_more b pending index d m n low high step before =
    let inside : index - 1 < length pending = omega arith in
    let next : index - 1 + 1 ≡ index = omega arith in
    let is : drop (index - 1) pending ≡ get_or pending (index - 1) d ∷ drop index pending =
    drop_more pending (index - 1) d inside ∙ ap (λ (i : ℕ). get_or pending (index - 1) d ∷ drop i pending) next in
    let P : List Pending → Type 0 = λ ticks. AreByCell b ticks n in
    subst P (sym is) (step (drop index pending) before)
