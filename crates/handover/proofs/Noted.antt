-- States noted in the cells of their places.
use Rattle.std.proofs.Common.{◌≡◌, ◌≢◌, ℕ, ◌+◌, ◌<◌, Bool, true, false, ◌||◌, cond, List, [], ◌∷◌, ◌++◌, length, set, get_or, take, add-one, Option, Some, None, refl, sym, ap, ◌∙◌, subst, arith, inl, inr}
use Rattle.std.specs.List.{list_any}
use Rattle.std.proofs.lemmas.Bool.{cases_eq, cases_Bool}
use Rattle.std.proofs.lemmas.List.{get_or-set_same, get_or-set_other}
use Rattle.std.proofs.lemmas.List.Folds.{list_any-append}
use Rattle.std.proofs.Math.Seq.{take-suc}
use Rattle.circuit.specs.declared.Pos.{Pos}
use Rattle.build.specs.Place.{same_place}
use Rattle.build.specs.SamePlace.{place_itself, place_one}
use Rattle.build.specs.Places.{inside, place-cell, cell-place, place_inside, found_inside, found-cell_of, found-is_some}
use Rattle.build.specs.Plan.{Plan, volume, found_cell, in_box, place_of, cell_of}
use Rattle.handover.specs.declared.held.Held.{Held}
use Rattle.handover.specs.HeldByCell.{in_cell, Notes, IsTimely, AreTimely}

-- a place of the box has its cell noted
pub noted_here : (b : Plan) (p : Pos) (i : ℕ) (state : Held) (old : List (Option Held)) → length old ≡ volume b → i < length old → found_cell b p ≡ Some i → Notes b (λ (q : Pos). same_place p q) state old (set old i (Some state))
noted_here b p i state old whole low found cell h = elim (cases_Bool (same_place p (place_of b cell))) [
  | inl same ↦
      (let at : i ≡ cell = found-cell_of b p i (sym found) ∙ ap (cell_of b) (place_one p (place_of b cell) same) ∙ cell-place b cell in
      rw same (ap (λ (k : ℕ). get_or (set old i (Some state)) k None) (sym at) ∙ get_or-set_same old i (Some state) None low))
  | inr other ↦
      (let apart : cell ≢ i = λ e. differs other e in
      rw other (get_or-set_other old i cell (Some state) None apart))
]
  where
    box : in_box b p ≡ true
    box = sym (found-is_some b p) ∙ ap (λ (one : Option ℕ). is_there one) found
      where
        is_there : Option ℕ → Bool
        is_there None = false
        is_there (Some k) = true

    differs : same_place p (place_of b cell) ≡ false → cell ≡ i → ⊥
    differs other e =
        let home : place_of b cell ≡ p = ap (place_of b) (e ∙ found-cell_of b p i (sym found)) ∙ place-cell b p (inside b p box) in
        let same : same_place p (place_of b cell) ≡ true = ap (same_place p) home ∙ place_itself p in
        let clash : false ≡ true = sym other ∙ same in
        absurd (cc)

-- a place outside has none
pub noted_nowhere : (b : Plan) (p : Pos) (state : Held) (old : List (Option Held)) → found_cell b p ≡ None → Notes b (λ (q : Pos). same_place p q) state old old
noted_nowhere b p state old none cell h = elim (cases_Bool (same_place p (place_of b cell))) [
  | inl same ↦
      (let home : p ≡ place_of b cell = place_one p (place_of b cell) same in
      let there : found_cell b p ≡ Some (cell_of b p) = found_inside b p (ap (in_box b) home ∙ place_inside b cell h) in
      let clash : None ≡ Some (cell_of b p) = sym none ∙ there in
      absurd (cc))
  | inr other ↦ rw other refl
]

-- what is noted at once of places that a node has
abbrev pub NotesAll : Plan → List Pos → Held → List (Option Held) → List (Option Held) → Type 0
NotesAll b ps state old new = Notes b (λ (q : Pos). list_any (λ (own : Pos). same_place own q) ps) state old new

pub noted_first : (b : Plan) (p : Pos) (state : Held) (old new : List (Option Held)) → Notes b (λ (q : Pos). same_place p q) state old new → NotesAll b (p ∷ []) state old new
noted_first b p state old new notes cell h = notes cell h ∙ by_test (same_place p (place_of b cell))
  where
    by_test : (x : Bool) → cond x (Some state) (in_cell old cell) ≡ cond (x || false) (Some state) (in_cell old cell)
    by_test true = refl
    by_test false = refl

pub noted_more : (b : Plan) (ps : List Pos) (p : Pos) (state : Held) (old mid new : List (Option Held)) → NotesAll b ps state old mid → Notes b (λ (q : Pos). same_place p q) state mid new →
    NotesAll b (ps ++ p ∷ []) state old new
noted_more b ps p state old mid new before notes cell h =
    notes cell h
    ∙ ap (cond (same_place p (place_of b cell)) (Some state)) (before cell h)
    ∙ by_tests (list_any own ps) (same_place p (place_of b cell))
    ∙ sym (ap (λ (x : Bool). cond x (Some state) (in_cell old cell)) (list_any-append own ps (p ∷ [])))
  where
    own : Pos → Bool
    own q = same_place q (place_of b cell)

    by_tests : (x y : Bool) → cond y (Some state) (cond x (Some state) (in_cell old cell)) ≡ cond (x || (y || false)) (Some state) (in_cell old cell)
    by_tests true true = refl
    by_tests true false = refl
    by_tests false true = refl
    by_tests false false = refl

pub timely_more : (i : ℕ) (state : Held) (old : List (Option Held)) → i < length old → IsTimely (Some state) → AreTimely old → AreTimely (set old i (Some state))
timely_more i state old low soon all cell = elim (cases_eq cell i) [
  | inl e ↦ subst IsTimely (sym (ap (λ (k : ℕ). get_or (set old i (Some state)) k None) e ∙ get_or-set_same old i (Some state) None low)) soon
  | inr n ↦ subst IsTimely (sym (get_or-set_other old i cell (Some state) None n)) (all cell)
]

-- one more of the places that stand behind the first
pub noted_next : (b : Plan) (first : Pos) (ps items : List Pos) (i : ℕ) (d : Pos) (state : Held) (old mid new : List (Option Held)) → items ≡ ps → i < length items →
    NotesAll b (first ∷ take i ps) state old mid → Notes b (λ (q : Pos). same_place (get_or items i d) q) state mid new → NotesAll b (first ∷ take (i + 1) ps) state old new
noted_next b first ps items i d state old mid new same low before notes =
    subst (λ (front : List Pos). NotesAll b (first ∷ front) state old new) (sym (take-more ps i d (omega (arith, ap (λ (all : List Pos). length all) same))))
    (noted_more b (first ∷ take i ps) (get_or ps i d) state old mid new before (subst (λ (all : List Pos). Notes b (λ (q : Pos). same_place (get_or all i d) q) state mid new) same notes))
  where
    take-more : (xs : List Pos) (k : ℕ) (d : Pos) → k < length xs → take (k + 1) xs ≡ take k xs ++ get_or xs k d ∷ []
    take-more xs k d low = rw add-one (take-suc xs k d low)
