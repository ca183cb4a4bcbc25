-- Each feeder of a wire is a wire, and there are at most 12.
use Rattle.std.proofs.Common.{◌≡◌, ℕ, ◌≤◌, Bool, true, false, not, ◌&&◌, List, [], ◌∷◌, ◌++◌, length, Option, Some, None, refl, subst, arith, length-append}
use Rattle.std.specs.Prelude.{All, Contains, slice_get}
use Rattle.std.specs.List.{filter_map, cons_option}
use Rattle.std.proofs.lemmas.Bool.{and_parts}
use Rattle.std.proofs.lemmas.Option.{slice_get_within, get_or_from_slice_get}
use Rattle.std.proofs.lemmas.List.Elements.{All-nil, All-cons, All-append, All-contains}
use Rattle.block_table.specs.declared.Side.{Side}
use Rattle.block_table.specs.declared.Side.TheVariants.{Up, Down}
use Rattle.circuit.specs.declared.Pos.{Pos}
use Rattle.build.specs.Place.{beside}
use Rattle.build.specs.Plan.{Plan, solid_at}
use Rattle.wire_shape.specs.Shape.{around, wire_at}
use Rattle.wire_shape.specs.Feeders.{place_if, fed_from_below, fed_from_beside, fed_from_above, feeders}

-- what is found has what each finding has
all-found : {X Y : Type 0} (P : Y → Type 0) (f : X → Option Y) (xs : List X) → ((x : X) (y : Y) → f x ≡ Some y → P y) → All P (filter_map f xs)
all-found P f [] h = All-nil P
all-found {Y} P f (x ∷ xs) h = one (f x) (h x) (all-found P f xs h)
  where
    one : (found : Option Y) → ((y : Y) → found ≡ Some y → P y) → All P (filter_map f xs) → All P (cons_option found (filter_map f xs))
    one None g rest = rest
    one (Some y) g rest = All-cons P y (filter_map f xs) (g y refl) rest

-- and is no more than what was looked at
length-found : {X Y : Type 0} (f : X → Option Y) (xs : List X) → length (filter_map f xs) ≤ length xs
length-found f [] = omega arith
length-found {Y} f (x ∷ xs) = one (f x) (length-found f xs)
  where
    one : (found : Option Y) → length (filter_map f xs) ≤ length xs → length (cons_option found (filter_map f xs)) ≤ length (x ∷ xs)
    one None h = omega arith
    one (Some y) h = omega arith

-- a place that is found passes the test
wire-place_if : (b : Plan) (test : Bool) (p q : Pos) → (test ≡ true → wire_at b p ≡ true) → place_if test p ≡ Some q → wire_at b q ≡ true
wire-place_if b true p q h e = let same : p ≡ q = cc in subst (λ (r : Pos). wire_at b r ≡ true) same (h refl)
wire-place_if b false p q h e = absurd (cc)

wire-below : (b : Plan) (p : Pos) (side : Side) (q : Pos) → fed_from_below b p side ≡ Some q → wire_at b q ≡ true
unfolding fed_from_below
wire-below b p side q e = wire-place_if b (not (solid_at b (beside side p)) && wire_at b (beside Down (beside side p))) (beside Down (beside side p)) q
    (λ h. (and_parts (not (solid_at b (beside side p))) (wire_at b (beside Down (beside side p))) h).1) e

wire-beside : (b : Plan) (p : Pos) (side : Side) (q : Pos) → fed_from_beside b p side ≡ Some q → wire_at b q ≡ true
unfolding fed_from_beside
wire-beside b p side q e = wire-place_if b (wire_at b (beside side p)) (beside side p) q (λ h. h) e

wire-above : (b : Plan) (p : Pos) (side : Side) (q : Pos) → fed_from_above b p side ≡ Some q → wire_at b q ≡ true
unfolding fed_from_above
wire-above b p side q e = wire-place_if b (solid_at b (beside side p) && not (solid_at b (beside Up p)) && wire_at b (beside Up (beside side p))) (beside Up (beside side p)) q
    (λ h. (and_parts (solid_at b (beside side p) && not (solid_at b (beside Up p))) (wire_at b (beside Up (beside side p))) h).1) e

-- each feeder is a wire
pub feeders-wires : (b : Plan) (p : Pos) → All (λ (q : Pos). wire_at b q ≡ true) (feeders b p)
unfolding feeders
feeders-wires b p =
    let IsWire : Pos → Type 0 = λ q. wire_at b q ≡ true in
    All-append IsWire _ _ (All-append IsWire _ _ (all-found IsWire (fed_from_below b p) around (wire-below b p)) (all-found IsWire (fed_from_beside b p) around (wire-beside b p)))
    (all-found IsWire (fed_from_above b p) around (wire-above b p))

pub feeder-wire : (b : Plan) (p q : Pos) → Contains (feeders b p) q → wire_at b q ≡ true
feeder-wire b p q h = All-contains (λ (r : Pos). wire_at b r ≡ true) (feeders b p) q (feeders-wires b p) h

pub feeder_at-wire : (b : Plan) (p q : Pos) (i : ℕ) → slice_get (feeders b p) i ≡ Some q → wire_at b q ≡ true
feeder_at-wire b p q i h = feeder-wire b p q (i, slice_get_within (feeders b p) i q h, get_or_from_slice_get (feeders b p) i q q h)

-- there are at most 12
pub feeders-few : (b : Plan) (p : Pos) → length (feeders b p) ≤ 12
unfolding feeders
feeders-few b p =
    let below = filter_map (fed_from_below b p) around in
    let beside = filter_map (fed_from_beside b p) around in
    let above = filter_map (fed_from_above b p) around in
    let low : length below ≤ 4 = length-found (fed_from_below b p) around in
    let level : length beside ≤ 4 = length-found (fed_from_beside b p) around in
    let high : length above ≤ 4 = length-found (fed_from_above b p) around in
    rw (length-append (below ++ beside) above, length-append below beside) (omega arith)
