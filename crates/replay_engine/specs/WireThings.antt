-- The wires of a build as a net: a cell for each thing, which is empty where no wire stands.
use Rattle.std.proofs.Common.{◌≡◌, ℕ, ◌+◌, ◌-◌, ◌<◌, ◌≤◌, ◌⊎◌, max, true, false, List, length, get_or, map, Option, Some, refl, sym, ◌∙◌, ap, arith, inl, inr, slice_index}
use Rattle.std.specs.Prelude.{slice_index_or, slice_set, if◌then◌else◌}
use Rattle.std.specs.Option.{option_map_or}
use Rattle.std.proofs.Math.Path.{fun_ext}
use Rattle.std.proofs.lemmas.Bool.{cases_Bool, cases_lt}
use Rattle.std.proofs.lemmas.List.{get_or-map, length-map}
use Rattle.std.proofs.lemmas.Simd.{map-map}
use Rattle.std.proofs.Math.ListN.{get_or-eq_default}
use Rattle.circuit.specs.declared.Pos.{Pos}
use Rattle.build.specs.Plan.{entry}
use Rattle.wire_net.specs.Net.{Cell, no_cell, cell_at, greatest, power_under, feeders_of, IsBounded, IsClosed, IsRight}
use Rattle.wire_net.specs.Laws.{right-at, right_bounded}
use Rattle.wire_shape.specs.Shape.{wire_at}
use Rattle.wire_shape.specs.Feeders.{feeders}
use Rattle.wire_shape.specs.FeederFacts.{feeders-wires}
use Rattle.power_rules.specs.RightWires.{source_power, AreRight, wire_powers, level_with, levels}
use Rattle.power_rules.specs.WirePowers.{feeders-same, wires_right, wires_unique}
use Rattle.power_rules.specs.Bounded.{source_power-le, wire_cells-bounded}
use Rattle.replay_engine.specs.Near.{origin}
use Rattle.replay_engine.specs.Things.{Numbered, IsNumbered, number_at, held}
use Rattle.replay_engine.specs.Numbers.{number_there, number_wire, number_cases, held-there, held-none}

-- the number of a thing, 0 where none stands
abbrev pub number_of : Numbered → Pos → ℕ
number_of m p = option_map_or (λ (n : ℕ). n) (number_at m p) 0

-- a wire's number is written behind so many others, and nothing where no wire stands
abbrev pub NotesWire : Numbered → Pos → List ℕ → ℕ → List ℕ → ℕ → Type 0
NotesWire m p old count new next =
    ((wire_at m.plan p ≡ false) × (new ≡ old) × (next ≡ count))
    ⊎ ((wire_at m.plan p ≡ true) × (new ≡ slice_set old count (number_of m p)) × (next ≡ count + 1))

abbrev pub thing_cell : Numbered → (Pos → ℕ) → Pos → Cell
thing_cell m given p =
    if wire_at m.plan p
    then record { base = source_power m.plan given p; feeders = map (number_of m) (feeders m.plan p) }
    else no_cell

abbrev pub thing_cells : Numbered → (Pos → ℕ) → List Cell
thing_cells m given = map (thing_cell m given) m.spots

-- the feeders of all things, whatever is given
abbrev pub feeders_in : Numbered → List (List ℕ)
feeders_in m = feeders_of (thing_cells m (λ p. 0))

pub length-things : (m : Numbered) (given : Pos → ℕ) → length (thing_cells m given) ≡ length m.spots
length-things m given = length-map m.spots (thing_cell m given)

pub things-at : (m : Numbered) (given : Pos → ℕ) (n : ℕ) (d : Pos) → n < length m.spots → cell_at (thing_cells m given) n ≡ thing_cell m given (slice_index_or m.spots n d)
things-at m given n d h = get_or-map (thing_cell m given) m.spots n d no_cell h

base-le : (m : Numbered) (given : Pos → ℕ) → ((q : Pos) → given q ≤ 15) → (p : Pos) → (thing_cell m given p).base ≤ 15
base-le m given h p = elim (cases_Bool (wire_at m.plan p)) [ inl e ↦ rw e (source_power-le m.plan given h p) | inr e ↦ rw e (omega arith) ]

pub things_bounded : (m : Numbered) (given : Pos → ℕ) → ((q : Pos) → given q ≤ 15) → IsBounded (thing_cells m given)
things_bounded m given h i = elim (cases_lt i (length m.spots)) [
  | inl l ↦ rw (things-at m given i origin l) (base-le m given h (slice_index_or m.spots i origin))
  | inr l ↦ rw (get_or-eq_default (thing_cells m given) no_cell {n = i} (rw (length-things m given) l)) (omega arith)
]

number_of-there : (m : Numbered) (p : Pos) (n : ℕ) → number_at m p ≡ Some n → number_of m p ≡ n
number_of-there m p n e = ap (λ (o : Option ℕ). option_map_or (λ (k : ℕ). k) o 0) e

fed_by : (m : Numbered) → IsNumbered m → (given : Pos → ℕ) (p : Pos) (k : ℕ) → k < length (thing_cell m given p).feeders → slice_index (thing_cell m given p).feeders k < length m.spots
fed_by m w given p k h = elim (cases_Bool (wire_at m.plan p)) [
  | inl e ↦
      (let short : k < length (map (number_of m) (feeders m.plan p)) = rw e at h in
      let below : k < length (feeders m.plan p) = omega (arith, length-map (feeders m.plan p) (number_of m)) in
      let q : Pos = get_or (feeders m.plan p) k p in
      let n = number_wire m w q (feeders-wires m.plan p k p below) in
      rw e (rw (get_or-map (number_of m) (feeders m.plan p) k p 0 below) (rw (number_of-there m q n.0 n.1) (number_there m w q n.0 n.1).0)))
  | inr e ↦ (let short : k < 0 = rw e at h in absurd (omega arith))
]

pub things_closed : (m : Numbered) → IsNumbered m → (given : Pos → ℕ) → IsClosed (thing_cells m given)
things_closed m w given i k h = elim (cases_lt i (length m.spots)) [
  | inl l ↦ rw (things-at m given i origin l) (rw (length-things m given) (fed_by m w given (slice_index_or m.spots i origin) k (rw (things-at m given i origin l) at h)))
  | inr l ↦ absurd (none (rw (get_or-eq_default (thing_cells m given) no_cell {n = i} (rw (length-things m given) l)) at h))
]
  where
    none : k < 0 → ⊥
    none e = omega arith

-- ---- right powers of the things are right at the wires

pub things_right : (m : Numbered) → IsNumbered m → (given : Pos → ℕ) (powers : List ℕ) → IsBounded (thing_cells m given) → IsRight (thing_cells m given) powers → AreRight m.plan given (held m powers 0)
things_right m w given powers bounded right = record { at_wires = here; small = below }
  where
    below : (p : Pos) → held m powers 0 p ≤ 15
    below p = elim (number_cases m p) [
      | inl e ↦ rw (held-none m powers 0 p e) (omega arith)
      | inr n ↦ rw (held-there m powers 0 p n.0 n.1) (right_bounded (thing_cells m given) powers bounded right n.0)
    ]

    by_wire : (p : Pos) → wire_at m.plan p ≡ true → thing_cell m given p ≡ record { base = source_power m.plan given p; feeders = map (number_of m) (feeders m.plan p) }
    by_wire p h = rw h refl

    fed : (q : Pos) → wire_at m.plan q ≡ true → slice_index powers (number_of m q) - 1 ≡ held m powers 0 q - 1
    fed q e = let n = number_wire m w q e in ap (λ (x : ℕ). x - 1) (ap (λ (k : ℕ). slice_index powers k) (number_of-there m q n.0 n.1) ∙ sym (held-there m powers 0 q n.0 n.1))

    here : (p : Pos) → wire_at m.plan p ≡ true → held m powers 0 p ≡ max (source_power m.plan given p) (greatest (map (λ q. held m powers 0 q - 1) (feeders m.plan p)))
    here p h =
        let n = number_wire m w p h in
        let t = number_there m w p n.0 n.1 in
        held-there m powers 0 p n.0 n.1
        ∙ right-at (thing_cells m given) powers right n.0
        ∙ ap (power_under powers) (things-at m given n.0 p t.0 ∙ ap (thing_cell m given) (t.1 p) ∙ by_wire p h)
        ∙ ap (λ (xs : List ℕ). max (source_power m.plan given p) (greatest xs)) (map-map (λ (f : ℕ). slice_index powers f - 1) (number_of m) (feeders m.plan p))
        ∙ ap (max (source_power m.plan given p)) (feeders-same m.plan (λ q. slice_index powers (number_of m q) - 1) (λ q. held m powers 0 q - 1) fed p)

-- so the levels are those of the world
pub things_levels : (m : Numbered) → IsNumbered m → (given : Pos → ℕ) (powers : List ℕ) → ((q : Pos) → given q ≤ 15) → IsRight (thing_cells m given) powers →
    level_with m.plan given (held m powers 0) ≡ levels m.plan given (wire_powers m.plan given)
things_levels m w given powers h right = fun_ext each
  where
    mine : AreRight m.plan given (held m powers 0)
    mine = things_right m w given powers (things_bounded m given h) right

    each : (p : Pos) → level_with m.plan given (held m powers 0) p ≡ levels m.plan given (wire_powers m.plan given) p
    each p = elim (cases_Bool (wire_at m.plan p)) [
      | inl e ↦ rw e (wires_unique m.plan given (held m powers 0) (entry m.plan (wire_powers m.plan given) 0) mine (wires_right m.plan given (wire_cells-bounded m.plan given h)) p e)
      | inr e ↦ rw e refl
    ]
