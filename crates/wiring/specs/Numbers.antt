-- Numbers and places of things.
use Rattle.std.proofs.Common.{◌≡◌, ℕ, ◌<◌, ◌≤◌, true, false, List, All, AllPairs, subst, arith, length, Option, Some, None, refl, sym, ◌∙◌, ap, inl, inr, ◌⊎◌}
use Rattle.std.specs.Prelude.{slice_index_or, IfSome, is_some}
use Rattle.std.proofs.lemmas.List.{length-map, get_or-map}
use Rattle.std.proofs.lemmas.List.Elements.{All-get_or}
use Rattle.std.specs.Option.{option_map_or}
use Rattle.std.proofs.lemmas.Bool.{cases_Bool}
use Rattle.circuit.specs.declared.Pos.{Pos}
use Rattle.block_table.specs.declared.Block.{Block}
use Rattle.build.specs.Plan.{volume, in_box, cell_of, place_of, block_at, found_cell}
use Rattle.build.specs.Places.{IsInside, inside, cell_below, cell-place, place-cell, place_inside, found-is_some, found-cell_of, in_box-not_outside}
use Rattle.cell_numbers.specs.Numbers.{number_in}
use Rattle.cell_numbers.proofs.Kept.{kept-few}
use Rattle.cell_numbers.proofs.Rising.{number-there, number-back, number-passes, kept-rises, kept-below}
use Rattle.block_table.specs.declared.Block.TheVariants.{Air}
use Rattle.wire_shape.specs.Shape.{wire_at, is_wire}
use Rattle.wiring.specs.Things.{Numbered, IsNumbered, is_thing, has_thing, number_at, held, spot, number_of}

pub option_cases : {A : Type 0} (o : Option A) → (o ≡ None) ⊎ ((x : A) × (o ≡ Some x))
option_cases None = inl refl
option_cases (Some x) = inr (x, refl)

pub number_cases : (m : Numbered) (p : Pos) → (number_at m p ≡ None) ⊎ ((n : ℕ) × (number_at m p ≡ Some n))
number_cases m p = option_cases (number_at m p)

-- a place with a number is in the box
pub number_inside : (m : Numbered) (p : Pos) (n : ℕ) → number_at m p ≡ Some n → in_box m.plan p ≡ true
unfolding number_at
number_inside m p n e = elim (cases_Bool (in_box m.plan p)) [
  | inl h ↦ h
  | inr h ↦ (let clash : ◌≡◌ {A = Option ℕ} None (Some n) = rw h at e in absurd (cc))
]

number_cell : (m : Numbered) (p : Pos) (n : ℕ) → number_at m p ≡ Some n → number_in m.cells (cell_of m.plan p) ≡ Some n
unfolding number_at
number_cell m p n e = rw (number_inside m p n e) at e

number_within : (m : Numbered) (p : Pos) → in_box m.plan p ≡ true → number_at m p ≡ number_in m.cells (cell_of m.plan p)
unfolding number_at
number_within m p h = rw h refl

spots-long : (m : Numbered) → IsNumbered m → length m.spots ≡ length m.cells
spots-long m w = ap length w.to.places ∙ length-map m.cells (place_of m.plan)

-- where the thing of a number stands
spot-cell : (m : Numbered) → IsNumbered m → (n : ℕ) (d : Pos) → n < length m.cells → slice_index_or m.spots n d ≡ place_of m.plan (slice_index_or m.cells n 0)
spot-cell m w n d h = ap (λ (ps : List Pos). slice_index_or ps n d) w.to.places ∙ get_or-map (place_of m.plan) m.cells n 0 d h

pub few_things : (m : Numbered) → IsNumbered m → length m.spots ≤ volume m.plan
few_things m w = omega (arith, spots-long m w, ap length w.to.things, kept-few (has_thing m.plan) 0 (volume m.plan))

-- it stands where its number says
pub number_there : (m : Numbered) → IsNumbered m → (p : Pos) (n : ℕ) → number_at m p ≡ Some n → (n < length m.spots) × ((d : Pos) → slice_index_or m.spots n d ≡ p)
number_there m w p n e =
    let h = number-there m.cells (cell_of m.plan p) n (number_cell m p n e) in
    (omega (arith, h.0, spots-long m w), λ d. spot-cell m w n d h.0 ∙ ap (place_of m.plan) (h.1 0) ∙ place-cell m.plan p (inside m.plan p (number_inside m p n e)))

-- and what stands there has its number
pub number_back : (m : Numbered) → IsNumbered m → (n : ℕ) (d : Pos) → n < length m.spots → number_at m (slice_index_or m.spots n d) ≡ Some n
number_back m w n d h =
    let below : n < length m.cells = omega (arith, spots-long m w) in
    let cell : ℕ = slice_index_or m.cells n 0 in
    let all : All (λ i. i < volume m.plan) m.cells = subst (All (λ i. i < volume m.plan)) (sym w.to.things) (kept-below (has_thing m.plan) (volume m.plan)) in
    let rises : AllPairs (λ i j. i < j) m.cells = subst (AllPairs (λ i j. i < j)) (sym w.to.things) (kept-rises (has_thing m.plan) 0 (volume m.plan)) in
    let here : in_box m.plan (place_of m.plan cell) ≡ true = place_inside m.plan cell (All-get_or (λ i. i < volume m.plan) m.cells n 0 below all) in
    ap (number_at m) (spot-cell m w n d below) ∙ number_within m (place_of m.plan cell) here ∙ ap (number_in m.cells) (cell-place m.plan cell) ∙ number-back m.cells rises n 0 below

-- wires and components have numbers
pub number_thing : (m : Numbered) → IsNumbered m → (p : Pos) → is_thing (block_at m.plan p) ≡ true → (n : ℕ) × (number_at m p ≡ Some n)
number_thing m w p t =
    let here : in_box m.plan p ≡ true = in_box-not_outside m.plan m.plan.blocks Air is_thing p refl t in
    let i : IsInside m.plan p = inside m.plan p here in
    let same : place_of m.plan (cell_of m.plan p) ≡ p = place-cell m.plan p i in
    let h = number-passes (has_thing m.plan) (volume m.plan) (cell_of m.plan p) (cell_below m.plan p i) (ap (λ (q : Pos). is_thing (block_at m.plan q)) same ∙ t) in
    (h.0, number_within m p here ∙ ap (λ (cells : List ℕ). number_in cells (cell_of m.plan p)) w.to.things ∙ h.1)

pub thing_wire : (block : Block) → is_wire block ≡ true → is_thing block ≡ true
thing_wire block h = rw h refl

pub number_wire : (m : Numbered) → IsNumbered m → (p : Pos) → wire_at m.plan p ≡ true → (n : ℕ) × (number_at m p ≡ Some n)
number_wire m w p h = number_thing m w p (thing_wire (block_at m.plan p) h)

-- the number that a cell has is that of its place
pub number-some : (m : Numbered) (p : Pos) (i : ℕ) → Some i ≡ found_cell m.plan p → number_in m.cells i ≡ number_at m p
number-some m p i e =
    let within : in_box m.plan p ≡ true = sym (found-is_some m.plan p) ∙ ap is_some (sym e) in
    ap (number_in m.cells) (found-cell_of m.plan p i e) ∙ sym (number_within m p within)

pub number-none : (m : Numbered) (p : Pos) → None ≡ found_cell m.plan p → None ≡ number_at m p
unfolding number_at
number-none m p e = let without : in_box m.plan p ≡ false = sym (found-is_some m.plan p) ∙ ap is_some (sym e) in rw without refl

pub number_below : (m : Numbered) → IsNumbered m → (p : Pos) (o : Option ℕ) → o ≡ number_at m p → IfSome o (λ (n : ℕ). n < length m.spots)
number_below m w p None e = tt
number_below m w p (Some n) e = (number_there m w p n (sym e)).0

-- ---- what things hold

pub held-there : {A : Type 0} (m : Numbered) (xs : List A) (d : A) (p : Pos) (n : ℕ) → number_at m p ≡ Some n → held m xs d p ≡ slice_index_or xs n d
unfolding held
held-there {A} m xs d p n e = ap (λ (o : Option ℕ). option_map_or (λ (k : ℕ). slice_index_or xs k d) o d) e

pub held-none : {A : Type 0} (m : Numbered) (xs : List A) (d : A) (p : Pos) → number_at m p ≡ None → held m xs d p ≡ d
unfolding held
held-none {A} m xs d p e = ap (λ (o : Option ℕ). option_map_or (λ (k : ℕ). slice_index_or xs k d) o d) e

pub number_of-there : (m : Numbered) (p : Pos) (n : ℕ) → number_at m p ≡ Some n → number_of m p ≡ n
number_of-there m p n e = ap (λ (o : Option ℕ). option_map_or (λ (k : ℕ). k) o 0) e

-- what stands at the spot of a number
pub spot_number : (m : Numbered) → IsNumbered m → (n : ℕ) → n < length m.spots → number_at m (spot m n) ≡ Some n
spot_number m w n h = number_back m w n _ h

pub held-spot : {A : Type 0} (m : Numbered) → IsNumbered m → (xs : List A) (d : A) (n : ℕ) → n < length m.spots → held m xs d (spot m n) ≡ slice_index_or xs n d
held-spot m w xs d n h = held-there m xs d (spot m n) n (spot_number m w n h)

pub spot-there : (m : Numbered) → IsNumbered m → (p : Pos) (n : ℕ) → number_at m p ≡ Some n → (n < length m.spots) × (spot m n ≡ p)
spot-there m w p n e = let t = number_there m w p n e in (t.0, t.1 _)

pub spot_inside : (m : Numbered) → IsNumbered m → (n : ℕ) → n < length m.spots → in_box m.plan (spot m n) ≡ true
spot_inside m w n h = number_inside m (spot m n) n (spot_number m w n h)
