-- Exactly one map of powers is right for what the components give, and it is the computed one.
use Rattle.std.proofs.Common.{◌≡◌, ℕ, zero, suc, ◌+◌, ◌-◌, ◌<◌, ◌≤◌, max, Bool, true, false, List, [], ◌∷◌, length, map, Option, Some, None, refl, sym, ◌∙◌, ap, subst, arith, inl, inr}
use Rattle.std.specs.Prelude.{not, ◌&&◌, ◌++◌, slice_index}
use Rattle.std.specs.List.{filter_map, cons_option}
use Rattle.std.proofs.lemmas.Bool.{and_parts, cases_Bool, cases_lt}
use Rattle.std.proofs.lemmas.List.{get_or-map}
use Rattle.block_table.specs.declared.Side.{Side}
use Rattle.block_table.specs.declared.Side.TheVariants.{Down, Up}
use Rattle.circuit.specs.declared.Pos.{Pos}
use Rattle.circuit.specs.Circuit.{Among}
use Rattle.build.specs.Place.{beside}
use Rattle.build.specs.Plan.{Plan, in_box, entry, cell_of, places, solid_at}
use Rattle.build.specs.Places.{IsInside, inside, cell_below, place-cell, length-places, places-at, entry-inside, entry-outside}
use Rattle.wire_net.specs.Net.{no_cell, cell_at, greatest, power_under, right_powers, IsRight, IsBounded}
use Rattle.wire_net.specs.Laws.{right-at, right_bounded, right_powers_right}
use Rattle.wire_shape.specs.Shape.{around, wire_at}
use Rattle.wire_shape.specs.Feeders.{place_if, fed_from_below, fed_from_beside, fed_from_above, feeders}
use Rattle.wire_shape.specs.WirePlaces.{wire_inside}
use Rattle.power_rules.specs.RightWires.{source_power, AreRight, wire_cell, wire_cells, wire_powers}

-- ---- each feeder is a wire

if_found : (test : Bool) (p q : Pos) → place_if test p ≡ Some q → (test ≡ true) × (p ≡ q)
if_found true p q e = (refl, cc)
if_found false p q e = absurd (cc)

wire_below : (b : Plan) (p : Pos) (side : Side) (q : Pos) → fed_from_below b p side ≡ Some q → wire_at b q ≡ true
unfolding fed_from_below
wire_below b p side q e =
    let h = if_found (not (solid_at b (beside side p)) && wire_at b (beside Down (beside side p))) (beside Down (beside side p)) q e in
    subst (λ (r : Pos). wire_at b r ≡ true) h.1 (and_parts (not (solid_at b (beside side p))) (wire_at b (beside Down (beside side p))) h.0).1

wire_beside : (b : Plan) (p : Pos) (side : Side) (q : Pos) → fed_from_beside b p side ≡ Some q → wire_at b q ≡ true
unfolding fed_from_beside
wire_beside b p side q e =
    let h = if_found (wire_at b (beside side p)) (beside side p) q e in
    subst (λ (r : Pos). wire_at b r ≡ true) h.1 h.0

wire_above : (b : Plan) (p : Pos) (side : Side) (q : Pos) → fed_from_above b p side ≡ Some q → wire_at b q ≡ true
unfolding fed_from_above
wire_above b p side q e =
    let h = if_found (solid_at b (beside side p) && not (solid_at b (beside Up p)) && wire_at b (beside Up (beside side p))) (beside Up (beside side p)) q e in
    subst (λ (r : Pos). wire_at b r ≡ true) h.1 (and_parts (solid_at b (beside side p) && not (solid_at b (beside Up p))) (wire_at b (beside Up (beside side p))) h.0).1

-- ---- the greatest over the feeders, where two functions compare at wires

found_cap : (f g : Pos → ℕ) (c : ℕ) (o : Option Pos) (xs : List Pos) → ((q : Pos) → o ≡ Some q → f q ≤ max (g q) c) →
    greatest (map f xs) ≤ max (greatest (map g xs)) c → greatest (map f (cons_option o xs)) ≤ max (greatest (map g (cons_option o xs))) c
found_cap f g c None xs h rest = rest
found_cap f g c (Some q) xs h rest = omega (arith, h q refl, rest)

search_cap : (f g : Pos → ℕ) (c : ℕ) (search : Side → Option Pos) → ((side : Side) (q : Pos) → search side ≡ Some q → f q ≤ max (g q) c) → (over : List Side) →
    greatest (map f (filter_map search over)) ≤ max (greatest (map g (filter_map search over))) c
search_cap f g c search h [] = omega arith
search_cap f g c search h (side ∷ over) = found_cap f g c (search side) (filter_map search over) (h side) (search_cap f g c search h over)

greatest-append : (f : Pos → ℕ) (xs ys : List Pos) → greatest (map f (xs ++ ys)) ≡ max (greatest (map f xs)) (greatest (map f ys))
greatest-append f [] ys = omega arith
greatest-append f (x ∷ xs) ys = omega (arith, greatest-append f xs ys)

pub feeders-cap : (b : Plan) (f g : Pos → ℕ) (c : ℕ) → ((q : Pos) → wire_at b q ≡ true → f q ≤ max (g q) c) → (p : Pos) →
    greatest (map f (feeders b p)) ≤ max (greatest (map g (feeders b p))) c
unfolding feeders
feeders-cap b f g c h p =
    omega (
      arith,
      greatest-append f (filter_map (fed_from_below b p) around ++ filter_map (fed_from_beside b p) around) (filter_map (fed_from_above b p) around),
      greatest-append g (filter_map (fed_from_below b p) around ++ filter_map (fed_from_beside b p) around) (filter_map (fed_from_above b p) around),
      greatest-append f (filter_map (fed_from_below b p) around) (filter_map (fed_from_beside b p) around),
      greatest-append g (filter_map (fed_from_below b p) around) (filter_map (fed_from_beside b p) around),
      search_cap f g c (fed_from_below b p) (λ side q e. h q (wire_below b p side q e)) around,
      search_cap f g c (fed_from_beside b p) (λ side q e. h q (wire_beside b p side q e)) around,
      search_cap f g c (fed_from_above b p) (λ side q e. h q (wire_above b p side q e)) around,
    )

pub feeders-same : (b : Plan) (f g : Pos → ℕ) → ((q : Pos) → wire_at b q ≡ true → f q ≡ g q) → (p : Pos) → greatest (map f (feeders b p)) ≡ greatest (map g (feeders b p))
feeders-same b f g h p =
    omega (arith, feeders-cap b f g 0 (λ q e. omega (arith, h q e)) p, feeders-cap b g f 0 (λ q e. omega (arith, h q e)) p)

-- ---- the computed powers are right

map-map : {A B : Type 0} (c : A → B) (f : B → ℕ) (xs : List A) → map f (map c xs) ≡ map (λ x. f (c x)) xs
map-map c f [] = refl
map-map c f (x ∷ xs) = ap (λ (ys : List ℕ). f (c x) ∷ ys) (map-map c f xs)

-- the cell of a wire in the net
pub wire_cell-at : (b : Plan) (given : Pos → ℕ) (p : Pos) → wire_at b p ≡ true →
    cell_at (wire_cells b given) (cell_of b p) ≡ record { base = source_power b given p; feeders = map (cell_of b) (feeders b p) }
wire_cell-at b given p h =
    let i : IsInside b p = inside b p (wire_inside b p h) in
    let below : cell_of b p < length (places b) = rw (length-places b) (cell_below b p i) in
    get_or-map (wire_cell b given) (places b) (cell_of b p) p no_cell below
    ∙ ap (wire_cell b given) (places-at b (cell_of b p) p (cell_below b p i) ∙ place-cell b p i)
    ∙ rw h refl

-- right powers of the cells are right at the wires
pub wires_right_by : (b : Plan) (given : Pos → ℕ) (powers : List ℕ) → IsBounded (wire_cells b given) → IsRight (wire_cells b given) powers → AreRight b given (entry b powers 0)
wires_right_by b given powers bounded right = record { at_wires = here; small = below }
  where
    below : (p : Pos) → entry b powers 0 p ≤ 15
    below p = elim (cases_Bool (in_box b p)) [
      | inl e ↦ rw (entry-inside b powers 0 p e) (right_bounded (wire_cells b given) powers bounded right (cell_of b p))
      | inr e ↦ rw (entry-outside b powers 0 p e) (omega arith)
    ]

    here : (p : Pos) → wire_at b p ≡ true → entry b powers 0 p ≡ max (source_power b given p) (greatest (map (λ q. entry b powers 0 q - 1) (feeders b p)))
    here p h =
        entry-inside b powers 0 p (wire_inside b p h)
        ∙ right-at (wire_cells b given) powers right (cell_of b p)
        ∙ ap (power_under powers) (wire_cell-at b given p h)
        ∙ ap (λ (xs : List ℕ). max (source_power b given p) (greatest xs)) (map-map (cell_of b) (λ f. slice_index powers f - 1) (feeders b p))
        ∙ ap (max (source_power b given p))
        (feeders-same b (λ q. slice_index powers (cell_of b q) - 1) (λ q. entry b powers 0 q - 1)
        (λ q e. ap (λ (n : ℕ). n - 1) (sym (entry-inside b powers 0 q (wire_inside b q e)))) p)

pub wires_right : (b : Plan) (given : Pos → ℕ) → IsBounded (wire_cells b given) → AreRight b given (entry b (wire_powers b given) 0)
unfolding wire_powers
wires_right b given bounded = wires_right_by b given (right_powers (wire_cells b given)) bounded (right_powers_right (wire_cells b given) bounded)

-- ---- and no others are

wires-cap : (b : Plan) (given P Q : Pos → ℕ) → AreRight b given P → AreRight b given Q → (k : ℕ) (p : Pos) → wire_at b p ≡ true → P p ≤ max (Q p) (15 - k)
wires-cap b given P Q r q zero p h = omega (arith, r.small p)
wires-cap b given P Q r q (suc k) p h =
    omega (
      arith,
      r.at_wires p h,
      q.at_wires p h,
      feeders-cap b (λ x. P x - 1) (λ x. Q x - 1) (15 - k - 1) (λ x e. omega (arith, wires-cap b given P Q r q k x e)) p,
    )

pub wires_unique : (b : Plan) (given P Q : Pos → ℕ) → AreRight b given P → AreRight b given Q → (p : Pos) → wire_at b p ≡ true → P p ≡ Q p
wires_unique b given P Q r q p h = omega (arith, wires-cap b given P Q r q 15 p h, wires-cap b given Q P q r 15 p h)

-- ---- where a power comes from

reached : (f : Pos → ℕ) (xs : List Pos) → 0 < greatest (map f xs) → (q : Pos) × Among xs q × (greatest (map f xs) ≡ f q)
reached f [] h = absurd (omega (arith, h))
reached f (x ∷ xs) h = elim (cases_lt (f x) (greatest (map f xs))) [
  | inl more ↦ let rest = reached f xs (omega (arith, more)) in (rest.0, inr rest.1, omega (arith, more, rest.2))
  | inr less ↦ (x, inl refl, omega (arith, less))
]

pub fed_from : (b : Plan) (given power : Pos → ℕ) → AreRight b given power → (p : Pos) → wire_at b p ≡ true → source_power b given p < power p →
    (q : Pos) × Among (feeders b p) q × (power q ≡ power p + 1)
fed_from b given power r p h above =
    let from = reached (λ q. power q - 1) (feeders b p) (omega (arith, r.at_wires p h, above)) in
    (from.0, from.1, omega (arith, r.at_wires p h, above, from.2))
