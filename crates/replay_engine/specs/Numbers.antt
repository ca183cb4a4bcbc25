-- Numbers and places of things.
use Rattle.std.proofs.Common.{◌≡◌, ℕ, zero, suc, ◌<◌, true, List, length, Option, Some, None, refl, sym, ◌∙◌, ap, inl, inr, ◌⊎◌, slice_index}
use Rattle.std.specs.Prelude.{slice_index_or, IfSome}
use Rattle.std.specs.Option.{option_map_or}
use Rattle.std.proofs.lemmas.Bool.{cases_Bool}
use Rattle.circuit.specs.declared.Pos.{Pos}
use Rattle.block_table.specs.declared.Block.{Block}
use Rattle.build.specs.Plan.{volume, in_box, entry, cell_of, place_of, block_at, found_cell}
use Rattle.build.specs.Places.{IsInside, inside, cell_below, place-cell, entry-inside, entry-outside, entry-place, entry-some, entry-none, in_box-not_outside}
use Rattle.block_table.specs.declared.Block.TheVariants.{Air}
use Rattle.wire_shape.specs.Shape.{wire_at, is_wire}
use Rattle.replay_engine.specs.Things.{Numbered, IsNumbered, is_thing, less_one, number_at, held}

one_more : (x n : ℕ) → less_one x ≡ Some n → x ≡ suc n
one_more zero n e = absurd (cc)
one_more (suc m) n e = let f : m ≡ n = cc in ap suc f

pub option_cases : {A : Type 0} (o : Option A) → (o ≡ None) ⊎ ((x : A) × (o ≡ Some x))
option_cases None = inl refl
option_cases (Some x) = inr (x, refl)

pub number_cases : (m : Numbered) (p : Pos) → (number_at m p ≡ None) ⊎ ((n : ℕ) × (number_at m p ≡ Some n))
number_cases m p = option_cases (number_at m p)

-- a place with a number is in the box
pub number_inside : (m : Numbered) (p : Pos) (n : ℕ) → number_at m p ≡ Some n → in_box m.plan p ≡ true
unfolding number_at
number_inside m p n e = elim (cases_Bool (in_box m.plan p)) [
  | inl h ↦ h
  | inr h ↦ (let clash : None ≡ Some n = sym (ap less_one (entry-outside m.plan m.numbers 0 p h)) ∙ e in absurd (cc))
]

number_cell : (m : Numbered) (p : Pos) (n : ℕ) → number_at m p ≡ Some n → slice_index m.numbers (cell_of m.plan p) ≡ suc n
unfolding number_at
number_cell m p n e = sym (entry-inside m.plan m.numbers 0 p (number_inside m p n e)) ∙ one_more (entry m.plan m.numbers 0 p) n e

-- it stands where its number says
pub number_there : (m : Numbered) → IsNumbered m → (p : Pos) (n : ℕ) → number_at m p ≡ Some n → (n < length m.spots) × ((d : Pos) → slice_index_or m.spots n d ≡ p)
number_there m w p n e =
    let i : IsInside m.plan p = inside m.plan p (number_inside m p n e) in
    let h = w.to.there (cell_of m.plan p) n (cell_below m.plan p i) (number_cell m p n e) in
    (h.0, λ d. h.1 d ∙ place-cell m.plan p i)

number_at_cell : (m : Numbered) (k : ℕ) → k < volume m.plan → number_at m (place_of m.plan k) ≡ less_one (slice_index m.numbers k)
unfolding number_at
number_at_cell m k h = ap less_one (entry-place m.plan m.numbers 0 k h)

-- and what stands there has its number
pub number_back : (m : Numbered) → IsNumbered m → (n : ℕ) (d : Pos) → n < length m.spots → number_at m (slice_index_or m.spots n d) ≡ Some n
number_back m w n d h =
    let b = w.to.back n h in
    ap (number_at m) (b.3 d) ∙ number_at_cell m b.0 b.1 ∙ ap less_one b.2

-- wires and components have numbers
pub number_thing : (m : Numbered) → IsNumbered m → (p : Pos) → is_thing (block_at m.plan p) ≡ true → (n : ℕ) × (number_at m p ≡ Some n)
number_thing m w p t =
    let here : in_box m.plan p ≡ true = in_box-not_outside m.plan m.plan.blocks Air is_thing p refl t in
    let i : IsInside m.plan p = inside m.plan p here in
    let same : place_of m.plan (cell_of m.plan p) ≡ p = place-cell m.plan p i in
    let below : cell_of m.plan p < volume m.plan = cell_below m.plan p i in
    let h = w.to.thing (cell_of m.plan p) below (ap (λ (q : Pos). is_thing (block_at m.plan q)) same ∙ t) in
    (h.0, ap (number_at m) (sym same) ∙ number_at_cell m (cell_of m.plan p) below ∙ ap less_one h.1)

pub thing_wire : (block : Block) → is_wire block ≡ true → is_thing block ≡ true
thing_wire block h = rw h refl

pub number_wire : (m : Numbered) → IsNumbered m → (p : Pos) → wire_at m.plan p ≡ true → (n : ℕ) × (number_at m p ≡ Some n)
number_wire m w p h = number_thing m w p (thing_wire (block_at m.plan p) h)

-- the number that a cell has is that of its place
pub number-some : (m : Numbered) (p : Pos) (i : ℕ) → Some i ≡ found_cell m.plan p → less_one (slice_index m.numbers i) ≡ number_at m p
unfolding number_at
number-some m p i e = ap less_one (entry-some m.plan m.numbers 0 p i e)

pub number-none : (m : Numbered) (p : Pos) → None ≡ found_cell m.plan p → None ≡ number_at m p
unfolding number_at
number-none m p e = ap less_one (entry-none m.plan m.numbers 0 p e)

pub number_below : (m : Numbered) → IsNumbered m → (p : Pos) (o : Option ℕ) → o ≡ number_at m p → IfSome o (λ (n : ℕ). n < length m.spots)
number_below m w p None e = tt
number_below m w p (Some n) e = (number_there m w p n (sym e)).0

-- ---- what things hold

pub held-there : {A : Type 0} (m : Numbered) (xs : List A) (d : A) (p : Pos) (n : ℕ) → number_at m p ≡ Some n → held m xs d p ≡ slice_index_or xs n d
unfolding held
held-there {A} m xs d p n e = ap (λ (o : Option ℕ). option_map_or (λ (k : ℕ). slice_index_or xs k d) o d) e

pub held-none : {A : Type 0} (m : Numbered) (xs : List A) (d : A) (p : Pos) → number_at m p ≡ None → held m xs d p ≡ d
unfolding held
held-none {A} m xs d p e = ap (λ (o : Option ℕ). option_map_or (λ (k : ℕ). slice_index_or xs k d) o d) e
