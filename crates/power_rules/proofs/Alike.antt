-- Builds that differ only in the values that blocks store: all that a world reads of its blocks is the same in both.
use Rattle.std.proofs.Common.{◌≡◌, ℕ, ◌+◌, ◌*◌, ◌/◌, ◌%◌, Bool, false, not, ◌&&◌, List, ◌++◌, map, pos, refl, sym, ◌∙◌, ap}
use Rattle.std.specs.Prelude.{◌||◌, if◌then◌else◌, slice_index_or}
use Rattle.std.specs.List.{list_any, filter_map, range_with_len}
use Rattle.wire_net.specs.Net.{no_cell, greatest, right_powers}
use Rattle.block_table.specs.declared.Side.{Side}
use Rattle.block_table.specs.declared.Side.TheVariants.{Down, Up, North, South, West, East}
use Rattle.block_table.specs.declared.Block.{Block}
use Rattle.block_table.specs.declared.Block.TheVariants.{Wire, Torch, WallTorch, Repeater, Comparator, Lamp, Trapdoor, Note}
use Rattle.block_table.specs.Facts.{opposite, is_solid}
use Rattle.circuit.specs.declared.Pos.{Pos}
use Rattle.build.specs.Place.{beside, sides}
use Rattle.build.specs.Plan.{Plan, fits, in_box, natural, cell_of, places, entry, block_at, solid_at, strength_at}
use Rattle.build.specs.Marks.{is_marked}
use Rattle.build.specs.Outputs.{out_kind, out_place, outputs}
use Rattle.build.specs.Roles.{role_of, role_at, base_of, base_at, is_diode_facing_elsewhere, faces_diode, first_at, if_solid, far_at}
use Rattle.wire_shape.specs.declared.Conn.TheVariants.{Absent, Side as ToSide, Up as ToUp}
use Rattle.wire_shape.specs.Shape.{around, across, is_wire, wire_at, joins, connection, is_joined, is_dot, points}
use Rattle.wire_shape.specs.Feeders.{place_if, fed_from_below, fed_from_beside, fed_from_above, feeders}
use Rattle.power_rules.specs.Power.{only, weak_of, weak, strong_of, strong, charge, read, undusted, read_no_dust, read_around, input, or_far, or_direct, measured, turned, turned_at, lock_power, lateral, lateral_at, lateral_power}
use Rattle.power_rules.specs.Readings.{readings_of, readings_at}
use Rattle.power_rules.specs.RightWires.{source_power, wire_cell, wire_cells, wire_powers, levels}
use Rattle.power_rules.specs.StandsFor.{unset}

-- the same box, the same strengths, and the same blocks but for the values that they store
pub record AreAlike (old new : Plan) : Type 0 where
  pub width : new.width ≡ old.width
  pub height : new.height ≡ old.height
  pub depth : new.depth ≡ old.depth
  pub blocks : (p : Pos) → unset (block_at new p) ≡ unset (block_at old p)
  pub strengths : (p : Pos) → strength_at new p ≡ strength_at old p

-- ---- words that don't look at the stored value

is_solid-unset : (k : Block) → is_solid (unset k) ≡ is_solid k
is_solid-unset (Lamp lit) = refl
is_solid-unset _ = refl

is_wire-unset : (k : Block) → is_wire (unset k) ≡ is_wire k
is_wire-unset (Torch lit) = refl
is_wire-unset _ = refl

joins-unset : (side : Side) (k : Block) → joins (unset k) side ≡ joins k side
joins-unset side (Torch lit) = refl
joins-unset side _ = refl

is_dot-unset : (k : Block) → is_dot (unset k) ≡ is_dot k
is_dot-unset (Torch lit) = refl
is_dot-unset _ = refl

role_of-unset : (marked : Bool) (k : Block) → role_of marked (unset k) ≡ role_of marked k
role_of-unset marked (Torch lit) = refl
role_of-unset marked _ = refl

base_of-unset : (k : Block) → base_of (unset k) ≡ base_of k
base_of-unset (Torch lit) = refl
base_of-unset _ = refl

elsewhere-unset : (side : Side) (k : Block) → is_diode_facing_elsewhere (unset k) side ≡ is_diode_facing_elsewhere k side
elsewhere-unset side (Torch lit) = refl
elsewhere-unset side _ = refl

faces_diode-unset : (b : Plan) (p : Pos) (k : Block) → faces_diode b p (unset k) ≡ faces_diode b p k
faces_diode-unset b p (Torch lit) = refl
faces_diode-unset b p _ = refl

out_kind-unset : (marked : Bool) (k : Block) → out_kind marked (unset k) ≡ out_kind marked k
out_kind-unset marked (Torch lit) = refl
out_kind-unset marked _ = refl

weak_of-unset : (b : Plan) (p : Pos) (level : ℕ) (side : Side) (k : Block) → weak_of b p (unset k) level side ≡ weak_of b p k level side
weak_of-unset b p level side (Torch lit) = refl
weak_of-unset b p level side _ = refl

strong_of-unset : (b : Plan) (p : Pos) (level : ℕ) (side : Side) (k : Block) → strong_of b p (unset k) level side ≡ strong_of b p k level side
strong_of-unset b p level side (Torch lit) = refl
strong_of-unset b p level side _ = refl

turned-unset : (level : ℕ) (side : Side) (k : Block) → turned (unset k) level side ≡ turned k level side
turned-unset level side (Torch lit) = refl
turned-unset level side _ = refl

lateral-unset : (level : ℕ) (side : Side) (k : Block) → lateral (unset k) level side ≡ lateral k level side
lateral-unset level side (Torch lit) = refl
lateral-unset level side _ = refl

readings_of-unset : (b : Plan) (level : Pos → ℕ) (p : Pos) (k : Block) → readings_of b level p (unset k) ≡ readings_of b level p k
readings_of-unset b level p (Torch lit) = refl
readings_of-unset b level p _ = refl

-- so such a word is the same of both blocks of a place
at-alike : {A : Type 0} {old new : Plan} → AreAlike old new → (f : Block → A) → ((k : Block) → f (unset k) ≡ f k) → (p : Pos) → f (block_at new p) ≡ f (block_at old p)
at-alike {A} {old} {new} h f same p = sym (same (block_at new p)) ∙ ap f (h.blocks p) ∙ same (block_at old p)

-- ---- the box

in_box-alike : {old new : Plan} → AreAlike old new → (p : Pos) → in_box new p ≡ in_box old p
unfolding in_box
in_box-alike h p = λ i. fits (h.width i) p.x && fits (h.height i) p.y && fits (h.depth i) p.z

cell_of-alike : {old new : Plan} → AreAlike old new → (p : Pos) → cell_of new p ≡ cell_of old p
cell_of-alike h p = λ i. natural p.x + (natural p.z + natural p.y * h.depth i) * h.width i

pub places-alike : {old new : Plan} → AreAlike old new → places new ≡ places old
places-alike h = λ i. map (λ n. record { x = pos (n % h.width i); y = pos (n / h.width i / h.depth i); z = pos (n / h.width i % h.depth i) }) (range_with_len 0 (h.width i * (h.depth i * h.height i)))

entry-alike : {A : Type 0} {old new : Plan} → AreAlike old new → {xs ys : List A} → xs ≡ ys → (d : A) (p : Pos) → entry new xs d p ≡ entry old ys d p
unfolding entry
entry-alike h e d p = λ i. if in_box-alike h p i then slice_index_or (e i) (cell_of-alike h p i) d else d

-- ---- wires

solid-alike : {old new : Plan} → AreAlike old new → (p : Pos) → solid_at new p ≡ solid_at old p
solid-alike h p = at-alike h is_solid is_solid-unset p

wire-alike : {old new : Plan} → AreAlike old new → (p : Pos) → wire_at new p ≡ wire_at old p
wire-alike h p = at-alike h is_wire is_wire-unset p

joins-alike : {old new : Plan} → AreAlike old new → (p : Pos) (side : Side) → joins (block_at new p) side ≡ joins (block_at old p) side
joins-alike h p side = at-alike h (λ k. joins k side) (joins-unset side) p

connection-alike : {old new : Plan} → AreAlike old new → (p : Pos) (side : Side) → connection new p side ≡ connection old p side
unfolding connection
connection-alike h p side = λ i.
    if joins-alike h (beside side p) side i then ToSide
    else if not (solid-alike h (beside Up p) i) && wire-alike h (beside Up (beside side p)) i then ToUp
    else if not (solid-alike h (beside side p) i) && wire-alike h (beside Down (beside side p)) i then ToSide
    else Absent

points-alike : {old new : Plan} → AreAlike old new → (p : Pos) (side : Side) → points new p side ≡ points old p side
unfolding points
points-alike h p side = λ i.
    if at-alike h is_dot is_dot-unset p i && not (list_any (λ s. is_joined (connection-alike h p s i)) around) then false
    else is_joined (connection-alike h p side i) || not (list_any (λ s. is_joined (connection-alike h p s i)) (across side))

below-alike : {old new : Plan} → AreAlike old new → (p : Pos) (side : Side) → fed_from_below new p side ≡ fed_from_below old p side
unfolding fed_from_below
below-alike h p side = λ i. place_if (not (solid-alike h (beside side p) i) && wire-alike h (beside Down (beside side p)) i) (beside Down (beside side p))

beside-alike : {old new : Plan} → AreAlike old new → (p : Pos) (side : Side) → fed_from_beside new p side ≡ fed_from_beside old p side
unfolding fed_from_beside
beside-alike h p side = λ i. place_if (wire-alike h (beside side p) i) (beside side p)

above-alike : {old new : Plan} → AreAlike old new → (p : Pos) (side : Side) → fed_from_above new p side ≡ fed_from_above old p side
unfolding fed_from_above
above-alike h p side = λ i.
    place_if (solid-alike h (beside side p) i && not (solid-alike h (beside Up p) i) && wire-alike h (beside Up (beside side p)) i) (beside Up (beside side p))

feeders-alike : {old new : Plan} → AreAlike old new → (p : Pos) → feeders new p ≡ feeders old p
unfolding feeders
feeders-alike h p = λ i.
    filter_map (λ s. below-alike h p s i) around ++ filter_map (λ s. beside-alike h p s i) around ++ filter_map (λ s. above-alike h p s i) around

-- ---- powers

weak_of-alike : {old new : Plan} → AreAlike old new → (p : Pos) (k : Block) (level : ℕ) (side : Side) → weak_of new p k level side ≡ weak_of old p k level side
weak_of-alike h p (Wire n e s w power) level Down = refl
weak_of-alike h p (Wire n e s w power) level Up = refl
weak_of-alike h p (Wire n e s w power) level North = λ i. only (points-alike h p North i) level
weak_of-alike h p (Wire n e s w power) level South = λ i. only (points-alike h p South i) level
weak_of-alike h p (Wire n e s w power) level West = λ i. only (points-alike h p West i) level
weak_of-alike h p (Wire n e s w power) level East = λ i. only (points-alike h p East i) level
weak_of-alike h p _ level side = refl

strong_of-alike : {old new : Plan} → AreAlike old new → (p : Pos) (k : Block) (level : ℕ) (side : Side) → strong_of new p k level side ≡ strong_of old p k level side
strong_of-alike h p (Wire n e s w power) level side = weak_of-alike h p (Wire n e s w power) level side
strong_of-alike h p _ level side = refl

weak-alike : {old new : Plan} → AreAlike old new → (level : Pos → ℕ) (p : Pos) (side : Side) → weak new level p side ≡ weak old level p side
unfolding weak
weak-alike {old} {new} h level p side = at-alike h (λ k. weak_of new p k (level p) side) (weak_of-unset new p (level p) side) p ∙ weak_of-alike h p (block_at old p) (level p) side

strong-alike : {old new : Plan} → AreAlike old new → (level : Pos → ℕ) (p : Pos) (side : Side) → strong new level p side ≡ strong old level p side
unfolding strong
strong-alike {old} {new} h level p side = at-alike h (λ k. strong_of new p k (level p) side) (strong_of-unset new p (level p) side) p ∙ strong_of-alike h p (block_at old p) (level p) side

charge-alike : {old new : Plan} → AreAlike old new → (level : Pos → ℕ) (p : Pos) → charge new level p ≡ charge old level p
unfolding charge
charge-alike h level p = λ i. greatest (map (λ s. strong-alike h level (beside s p) (opposite s) i) sides)

read-alike : {old new : Plan} → AreAlike old new → (level : Pos → ℕ) (p : Pos) (side : Side) → read new level p side ≡ read old level p side
unfolding read
read-alike h level p side = λ i.
    if solid-alike h (beside side p) i then charge-alike h level (beside side p) i else weak-alike h level (beside side p) (opposite side) i

undusted-alike : {old new : Plan} → AreAlike old new → (level : Pos → ℕ) → undusted new level ≡ undusted old level
unfolding undusted
undusted-alike h level = λ i p. only (not (wire-alike h p i)) (level p)

read_no_dust-alike : {old new : Plan} → AreAlike old new → (level : Pos → ℕ) (p : Pos) (side : Side) → read_no_dust new level p side ≡ read_no_dust old level p side
read_no_dust-alike {old} {new} h level p side = ap (λ l. read new l p side) (undusted-alike h level) ∙ read-alike h (undusted old level) p side

read_around-alike : {old new : Plan} → AreAlike old new → (level : Pos → ℕ) (p : Pos) → read_around new level p ≡ read_around old level p
unfolding read_around
read_around-alike h level p = λ i. greatest (map (λ s. read-alike h level p s i) sides)

input-alike : {old new : Plan} → AreAlike old new → (level : Pos → ℕ) (p : Pos) (facing : Side) → input new level p facing ≡ input old level p facing
unfolding input
input-alike h level p facing = λ i. if wire-alike h (beside facing p) i then level (beside facing p) else read-alike h level p facing i

far-alike : {old new : Plan} → AreAlike old new → (p : Pos) (facing : Side) → far_at new p facing ≡ far_at old p facing
far-alike h p facing = λ i. if_solid (solid-alike h (beside facing p) i) (h.strengths (beside facing (beside facing p)) i)

measured-alike : {old new : Plan} → AreAlike old new → (level : Pos → ℕ) (p : Pos) (facing : Side) → measured new level p facing ≡ measured old level p facing
unfolding measured
measured-alike h level p facing = λ i. or_direct (h.strengths (beside facing p) i) (or_far (far-alike h p facing i) (input-alike h level p facing i))

turned-alike : {old new : Plan} → AreAlike old new → (level : Pos → ℕ) (p : Pos) (side : Side) → turned_at new level p side ≡ turned_at old level p side
turned-alike h level p side = at-alike h (λ k. turned k (level (beside side p)) side) (turned-unset (level (beside side p)) side) (beside side p)

lock_power-alike : {old new : Plan} → AreAlike old new → (level : Pos → ℕ) (p : Pos) (facing : Side) → lock_power new level p facing ≡ lock_power old level p facing
unfolding lock_power
lock_power-alike h level p facing = λ i. greatest (map (λ s. turned-alike h level p s i) (across facing))

lateral-alike : {old new : Plan} → AreAlike old new → (level : Pos → ℕ) (p : Pos) (side : Side) → lateral_at new level p side ≡ lateral_at old level p side
lateral-alike h level p side = at-alike h (λ k. lateral k (level (beside side p)) side) (lateral-unset (level (beside side p)) side) (beside side p)

lateral_power-alike : {old new : Plan} → AreAlike old new → (level : Pos → ℕ) (p : Pos) (facing : Side) → lateral_power new level p facing ≡ lateral_power old level p facing
unfolding lateral_power
lateral_power-alike h level p facing = λ i. greatest (map (λ s. lateral-alike h level p s i) (across facing))

-- ---- readings under the right powers of the wires

readings_of-alike : {old new : Plan} → AreAlike old new → (level : Pos → ℕ) (p : Pos) (k : Block) → readings_of new level p k ≡ readings_of old level p k
readings_of-alike h level p (Torch lit) = λ i. record { back = read-alike h level p Down i; side = 0 }
readings_of-alike h level p (WallTorch facing lit) = λ i. record { back = read-alike h level p (opposite facing) i; side = 0 }
readings_of-alike h level p (Lamp lit) = λ i. record { back = read_around-alike h level p i; side = 0 }
readings_of-alike h level p (Trapdoor facing top powered) = λ i. record { back = read_around-alike h level p i; side = 0 }
readings_of-alike h level p (Note powered) = λ i. record { back = read_around-alike h level p i; side = 0 }
readings_of-alike h level p (Repeater delay facing powered) = λ i. record { back = input-alike h level p facing i; side = lock_power-alike h level p facing i }
readings_of-alike h level p (Comparator facing subtract) = λ i. record { back = measured-alike h level p facing i; side = lateral_power-alike h level p facing i }
readings_of-alike h level p _ = refl

readings_at-alike : {old new : Plan} → AreAlike old new → (level : Pos → ℕ) (p : Pos) → readings_at new level p ≡ readings_at old level p
unfolding readings_at
readings_at-alike {old} {new} h level p = at-alike h (readings_of new level p) (readings_of-unset new level p) p ∙ readings_of-alike h level p (block_at old p)

source_power-alike : {old new : Plan} → AreAlike old new → (given : Pos → ℕ) (p : Pos) → source_power new given p ≡ source_power old given p
unfolding source_power
source_power-alike h given p = λ i. greatest (map (λ s. read_no_dust-alike h given p s i) sides)

wire_cell-alike : {old new : Plan} → AreAlike old new → (given : Pos → ℕ) (p : Pos) → wire_cell new given p ≡ wire_cell old given p
wire_cell-alike h given p = λ i.
    if wire-alike h p i then record { base = source_power-alike h given p i; feeders = map (λ q. cell_of-alike h q i) (feeders-alike h p i) } else no_cell

wire_cells-alike : {old new : Plan} → AreAlike old new → (given : Pos → ℕ) → wire_cells new given ≡ wire_cells old given
wire_cells-alike h given = λ i. map (λ p. wire_cell-alike h given p i) (places-alike h i)

wire_powers-alike : {old new : Plan} → AreAlike old new → (given : Pos → ℕ) → wire_powers new given ≡ wire_powers old given
unfolding wire_powers
wire_powers-alike h given = ap right_powers (wire_cells-alike h given)

levels-alike : {old new : Plan} → AreAlike old new → (given : Pos → ℕ) → levels new given (wire_powers new given) ≡ levels old given (wire_powers old given)
levels-alike h given = λ i p. if wire-alike h p i then entry-alike h (wire_powers-alike h given) 0 p i else given p

pub world_readings-alike : {old new : Plan} → AreAlike old new → (given : Pos → ℕ) (p : Pos) →
    readings_at new (levels new given (wire_powers new given)) p ≡ readings_at old (levels old given (wire_powers old given)) p
world_readings-alike {old} {new} h given p =
    ap (λ level. readings_at new level p) (levels-alike h given) ∙ readings_at-alike h (levels old given (wire_powers old given)) p

-- ---- components and outputs

pub role-alike : {old new : Plan} → AreAlike old new → (marks : List Pos) (p : Pos) → role_at new marks p ≡ role_at old marks p
unfolding role_at
role-alike h marks p = at-alike h (role_of (is_marked marks p)) (role_of-unset (is_marked marks p)) p

faces_diode-alike : {old new : Plan} → AreAlike old new → (p : Pos) (k : Block) → faces_diode new p k ≡ faces_diode old p k
faces_diode-alike h p (Repeater delay facing powered) =
    at-alike h (λ k. is_diode_facing_elsewhere k (opposite facing)) (elsewhere-unset (opposite facing)) (beside (opposite facing) p)
faces_diode-alike h p (Comparator facing subtract) =
    at-alike h (λ k. is_diode_facing_elsewhere k (opposite facing)) (elsewhere-unset (opposite facing)) (beside (opposite facing) p)
faces_diode-alike h p _ = refl

pub first-alike : {old new : Plan} → AreAlike old new → (p : Pos) → first_at new p ≡ first_at old p
unfolding first_at
first-alike {old} {new} h p = at-alike h (faces_diode new p) (faces_diode-unset new p) p ∙ faces_diode-alike h p (block_at old p)

pub base-alike : {old new : Plan} → AreAlike old new → (p : Pos) → base_at new p ≡ base_at old p
unfolding base_at
base-alike h p = at-alike h base_of base_of-unset p

pub outputs-alike : {old new : Plan} → AreAlike old new → (marks : List Pos) → outputs new marks ≡ outputs old marks
unfolding outputs
outputs-alike h marks = λ i. filter_map (λ p. out_place p (at-alike h (out_kind (is_marked marks p)) (out_kind-unset (is_marked marks p)) p i)) (places-alike h i)
