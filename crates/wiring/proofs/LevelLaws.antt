-- The levels of things: right ones are those of the world, and what is read is the greatest of a row.
use Rattle.std.proofs.Common.{◌≡◌, ℕ, zero, suc, ◌-◌, ◌<◌, ◌≤◌, max, true, false, List, [], ◌∷◌, length, map, Some, refl, sym, ◌∙◌, ap, subst, arith, inl, inr, ◌⊎◌, slice_index}
use Rattle.std.specs.Prelude.{slice_index_or, replicate}
use Rattle.std.proofs.Math.Path.{fun_ext}
use Rattle.std.proofs.Math.ListN.{get_or-eq_default}
use Rattle.std.proofs.lemmas.Bool.{cases_Bool, cases_lt, false≢true}
use Rattle.std.proofs.lemmas.List.{get_or-map, length-map, length-replicate}
use Rattle.std.proofs.lemmas.Simd.{map-map}
use Rattle.block_table.specs.declared.Block.{Block}
use Rattle.block_table.specs.declared.Block.TheVariants.{Torch, WallTorch, Repeater, Comparator, Lever, Button, Plate, RedstoneBlock, Weighted}
use Rattle.circuit.specs.declared.Pos.{Pos}
use Rattle.circuit.specs.Circuit.{Among}
use Rattle.build.specs.Plan.{block_at, entry}
use Rattle.wire_net.specs.Net.{no_cell, cell_at, greatest, power_under, IsBounded, IsRight}
use Rattle.wire_net.specs.Laws.{right-at, right_bounded}
use Rattle.wire_net.specs.Listed.{list_at}
use Rattle.wire_net.specs.WaveSteps.{Has, AreBelow}
use Rattle.wire_net.proofs.Lists.{has-of}
use Rattle.wire_shape.specs.Shape.{wire_at}
use Rattle.wire_shape.specs.Feeders.{feeders}
use Rattle.wire_shape.specs.FeederFacts.{feeder-wire}
use Rattle.power_rules.specs.RightWires.{source_power, AreRight, wire_powers, levels}
use Rattle.power_rules.specs.WirePowers.{feeders-same, wires_right, wires_unique}
use Rattle.power_rules.specs.Bounded.{source_power-le, wire_cells-bounded}
use Rattle.power_rules.specs.Readings.{readings_at}
use Rattle.wiring.specs.Taps.{Tap, Direct, Wired as WiredTap}
use Rattle.wiring.specs.Readers.{reader_taps, reader_side_taps}
use Rattle.wiring.specs.Parts.{part_at}
use Rattle.wiring.specs.Reads.{is_source, IsTap, IsPlain, tap_place, back_places, side_places, direct_places, highest, readings_with}
use Rattle.wiring.specs.Things.{Numbered, IsNumbered, is_thing, number_at, held, origin, number_of}
use Rattle.wiring.specs.Numbers.{number_there, number_wire, number_thing, number_cases, held-there, held-none, number_of-there}
use Rattle.wiring.specs.Wired.{numbers_of, back_row, side_row, feeder_row, level_cell, level_cells, IsGiven, row_level, Kind, Back, Side, Direct, Feeders, row_of, AllBelow, Wired, IsWired, Turns}
use Rattle.wiring.proofs.Turning.{empty_below}
use Rattle.wiring.proofs.Lists.{From_map, among-map, among-map_back, among-Contains, Contains-among}
use Rattle.wiring.proofs.ReadLaws.{source-dry, reader_backs-is_tap, reader_sides-is_tap, direct_places-source, readings-taps}

-- ---- the cells

pub length-cells : (m : Numbered) (given : Pos → ℕ) → length (level_cells m given) ≡ length m.spots
length-cells m given = length-map m.spots (level_cell m given)

pub cells-at : (m : Numbered) (given : Pos → ℕ) (n : ℕ) (d : Pos) → n < length m.spots → cell_at (level_cells m given) n ≡ level_cell m given (slice_index_or m.spots n d)
cells-at m given n d h = get_or-map (level_cell m given) m.spots n d no_cell h

pub cells-past : (m : Numbered) (given : Pos → ℕ) (n : ℕ) → length m.spots ≤ n → cell_at (level_cells m given) n ≡ no_cell
cells-past m given n h = get_or-eq_default (level_cells m given) no_cell {n = n} (rw (length-cells m given) h)

base-le : (m : Numbered) (given : Pos → ℕ) → ((q : Pos) → given q ≤ 15) → (p : Pos) → (level_cell m given p).base ≤ 15
base-le m given h p = elim (cases_Bool (wire_at m.plan p)) [ inl e ↦ rw e (source_power-le m.plan given h p) | inr e ↦ rw e (h p) ]

pub cells_bounded : (m : Numbered) (given : Pos → ℕ) → ((q : Pos) → given q ≤ 15) → IsBounded (level_cells m given)
cells_bounded m given h i = elim (cases_lt i (length m.spots)) [
  | inl l ↦ rw (cells-at m given i origin l) (base-le m given h (slice_index_or m.spots i origin))
  | inr l ↦ rw (cells-past m given i l) (omega arith)
]

-- ---- right levels

wire-cell : (m : Numbered) (given : Pos → ℕ) (p : Pos) → wire_at m.plan p ≡ true → level_cell m given p ≡ record { base = source_power m.plan given p; feeders = map (number_of m) (feeders m.plan p) }
wire-cell m given p h = rw h refl

other-cell : (m : Numbered) (given : Pos → ℕ) (p : Pos) → wire_at m.plan p ≡ false → level_cell m given p ≡ record { base = given p; feeders = [] }
other-cell m given p h = rw h refl

module _ (m : Numbered) (w : IsNumbered m) (given : Pos → ℕ) (g : IsGiven m given) (powers : List ℕ) (right : IsRight (level_cells m given) powers) where
  bounded : IsBounded (level_cells m given)
  bounded = cells_bounded m given g.small

  -- what a thing has
  level-there : (p : Pos) (n : ℕ) → number_at m p ≡ Some n → held m powers 0 p ≡ power_under powers (level_cell m given p)
  level-there p n e =
      let t = number_there m w p n e in
      held-there m powers 0 p n e ∙ right-at (level_cells m given) powers right n
      ∙ ap (power_under powers) (cells-at m given n p t.0 ∙ ap (level_cell m given) (t.1 p))

  pub level-other : (p : Pos) → wire_at m.plan p ≡ false → held m powers 0 p ≡ given p
  level-other p h = elim (number_cases m p) [
    | inl none ↦ held-none m powers 0 p none ∙ sym (g.none p none)
    | inr n ↦ level-there p n.0 n.1 ∙ ap (power_under powers) (other-cell m given p h) ∙ omega arith
  ]

  pub level-small : (p : Pos) → held m powers 0 p ≤ 15
  level-small p = elim (number_cases m p) [
    | inl none ↦ rw (held-none m powers 0 p none) (omega arith)
    | inr n ↦ rw (held-there m powers 0 p n.0 n.1) (right_bounded (level_cells m given) powers bounded right n.0)
  ]

  fed : (q : Pos) → wire_at m.plan q ≡ true → slice_index powers (number_of m q) - 1 ≡ held m powers 0 q - 1
  fed q e = let n = number_wire m w q e in ap (λ (x : ℕ). x - 1) (ap (λ (k : ℕ). slice_index powers k) (number_of-there m q n.0 n.1) ∙ sym (held-there m powers 0 q n.0 n.1))

  pub levels_right : AreRight m.plan given (held m powers 0)
  levels_right = record { at_wires = here; small = level-small }
    where
      here : (p : Pos) → wire_at m.plan p ≡ true → held m powers 0 p ≡ max (source_power m.plan given p) (greatest (map (λ q. held m powers 0 q - 1) (feeders m.plan p)))
      here p h =
          let n = number_wire m w p h in
          level-there p n.0 n.1 ∙ ap (power_under powers) (wire-cell m given p h)
          ∙ ap (λ (xs : List ℕ). max (source_power m.plan given p) (greatest xs)) (map-map (λ (f : ℕ). slice_index powers f - 1) (number_of m) (feeders m.plan p))
          ∙ ap (max (source_power m.plan given p)) (feeders-same m.plan (λ q. slice_index powers (number_of m q) - 1) (λ q. held m powers 0 q - 1) fed p)

  -- so they are the levels of the world
  pub levels_world : held m powers 0 ≡ levels m.plan given (wire_powers m.plan given)
  levels_world = fun_ext each
    where
      each : (p : Pos) → held m powers 0 p ≡ levels m.plan given (wire_powers m.plan given) p
      each p = elim (cases_Bool (wire_at m.plan p)) [
        | inl e ↦ rw e (wires_unique m.plan given (held m powers 0) (entry m.plan (wire_powers m.plan given) 0) levels_right (wires_right m.plan given (wire_cells-bounded m.plan given g.small)) p e)
        | inr e ↦ rw e (level-other p e)
      ]

  -- and plain where what is given is
  pub levels_plain : IsPlain m.plan given → IsPlain m.plan (held m powers 0)
  levels_plain plain = record { each = λ p s. rw (level-other p (source-dry (block_at m.plan p) s)) (plain.each p s) }

-- ---- rows of numbers

source-thing : (k : Block) → is_source k ≡ true → is_thing k ≡ true
source-thing (Torch lit) h = refl
source-thing (WallTorch facing lit) h = refl
source-thing RedstoneBlock h = refl
source-thing (Lever face facing powered) h = refl
source-thing (Button name face facing powered) h = refl
source-thing (Plate name powered) h = refl
source-thing (Weighted name power) h = refl
source-thing (Repeater delay facing powered) h = refl
source-thing (Comparator facing subtract) h = refl
source-thing _ h = absurd (false≢true h)

pub source_number : (m : Numbered) → IsNumbered m → (p : Pos) → is_source (block_at m.plan p) ≡ true → (n : ℕ) × (number_at m p ≡ Some n)
source_number m w p h = number_thing m w p (source-thing (block_at m.plan p) h)

-- each of these places has a number
abbrev pub AreThings : Numbered → List Pos → Type 0
AreThings m ps = (q : Pos) → Among ps q → (n : ℕ) × (number_at m q ≡ Some n)

tap_number : (m : Numbered) → IsNumbered m → (tap : Tap) → IsTap m.plan tap → (n : ℕ) × (number_at m (tap_place tap) ≡ Some n)
tap_number m w (Direct p) h = source_number m w p h
tap_number m w (WiredTap p) h = number_wire m w p h

taps_things : (m : Numbered) → IsNumbered m → (taps : List Tap) → ((tap : Tap) → Among taps tap → IsTap m.plan tap) → AreThings m (map tap_place taps)
taps_things m w taps h q k =
    let r : From_map tap_place taps q = among-map tap_place taps q k in
    subst (λ (x : Pos). (n : ℕ) × (number_at m x ≡ Some n)) r.is (tap_number m w r.it (h r.it r.is_in))

pub back_things : (m : Numbered) → IsNumbered m → (p : Pos) → AreThings m (back_places m.plan p)
back_things m w p = taps_things m w (reader_taps m.plan p (block_at m.plan p)) (reader_backs-is_tap m.plan p)

pub side_things : (m : Numbered) → IsNumbered m → (p : Pos) → AreThings m (side_places m.plan p)
side_things m w p = taps_things m w (reader_side_taps m.plan p (block_at m.plan p)) (reader_sides-is_tap m.plan p (block_at m.plan p))

pub direct_things : (m : Numbered) → IsNumbered m → (p : Pos) → AreThings m (direct_places m.plan p)
direct_things m w p q h = source_number m w q (direct_places-source m.plan p q h)

pub feeder_things : (m : Numbered) → IsNumbered m → (p : Pos) → AreThings m (feeders m.plan p)
feeder_things m w p q h = number_wire m w q (feeder-wire m.plan p q (among-Contains (feeders m.plan p) q h))

-- the greatest of a row is the greatest at its places
pub row-places : (m : Numbered) (xs : List ℕ) (level : Pos → ℕ) (ps : List Pos) → ((q : Pos) → Among ps q → slice_index xs (number_of m q) ≡ level q) →
    row_level xs (numbers_of m ps) ≡ highest level ps
row-places m xs level [] h = refl
row-places m xs level (p ∷ ps) h = λ i. max (h p (inl refl) i) (row-places m xs level ps (λ q k. h q (inr k)) i)

row-held : (m : Numbered) (xs : List ℕ) (ps : List Pos) → AreThings m ps → row_level xs (numbers_of m ps) ≡ highest (held m xs 0) ps
row-held m xs ps things = row-places m xs (held m xs 0) ps (λ q k. there q (things q k))
  where
    there : (q : Pos) → (n : ℕ) × (number_at m q ≡ Some n) → slice_index xs (number_of m q) ≡ held m xs 0 q
    there q n = ap (λ (k : ℕ). slice_index xs k) (number_of-there m q n.0 n.1) ∙ sym (held-there m xs 0 q n.0 n.1)

-- what a thing that is no wire reads
pub reads-rows : (m : Numbered) → IsNumbered m → (xs : List ℕ) → IsPlain m.plan (held m xs 0) → (p : Pos) → wire_at m.plan p ≡ false →
    readings_at m.plan (held m xs 0) p ≡ readings_with m.plan p (row_level xs (back_row m p)) (row_level xs (side_row m p))
reads-rows m w xs plain p dry =
    readings-taps m.plan (held m xs 0) plain p
    ∙ (λ i. readings_with m.plan p (sym back i) (sym (row-held m xs (side_places m.plan p) (side_things m w p)) i))
  where
    back : row_level xs (back_row m p) ≡ highest (held m xs 0) (back_places m.plan p)
    back = rw dry (row-held m xs (back_places m.plan p) (back_things m w p))

-- ---- rows have numbers of things

pub numbers-below : (m : Numbered) → IsNumbered m → (ps : List Pos) → AreThings m ps → AreBelow (length m.spots) (numbers_of m ps)
numbers-below m w ps things k h =
    let short : k < length ps = omega (arith, length-map ps (number_of m)) in
    let n = things (slice_index_or ps k origin) (Contains-among ps (slice_index_or ps k origin) (k, short, same ps k short)) in
    rw (get_or-map (number_of m) ps k origin 0 short) (rw (number_of-there m (slice_index_or ps k origin) n.0 n.1) (number_there m w (slice_index_or ps k origin) n.0 n.1).0)
  where
    same : (qs : List Pos) (j : ℕ) → j < length qs → slice_index_or qs j (slice_index_or qs j origin) ≡ slice_index_or qs j origin
    same [] j l = absurd (omega arith)
    same (q ∷ qs) zero l = refl
    same (q ∷ qs) (suc j) l = same qs j (omega arith)

-- a place among these gives its number to the row
pub numbers-have : (m : Numbered) (ps : List Pos) (q : Pos) (n : ℕ) → Among ps q → number_at m q ≡ Some n → Has (numbers_of m ps) n
numbers-have m ps q n h e =
    has-of (numbers_of m ps) n (among-Contains (numbers_of m ps) n (subst (Among (numbers_of m ps)) (number_of-there m q n e) (among-map_back (number_of m) ps q h)))

-- ---- all rows of a kind

empty-below : (n : ℕ) → AreBelow n []
empty-below n k h = absurd (none h)
  where
    none : k < 0 → ⊥
    none l = omega arith

row-below : (m : Numbered) → IsNumbered m → (kind : Kind) (p : Pos) → AreBelow (length m.spots) (row_of m kind p)
row-below m w Back p = elim (cases_Bool (wire_at m.plan p)) [ inl e ↦ rw e (empty-below (length m.spots)) | inr e ↦ rw e (numbers-below m w (back_places m.plan p) (back_things m w p)) ]
row-below m w Side p = numbers-below m w (side_places m.plan p) (side_things m w p)
row-below m w Direct p = elim (cases_Bool (wire_at m.plan p)) [ inl e ↦ rw e (numbers-below m w (direct_places m.plan p) (direct_things m w p)) | inr e ↦ rw e (empty-below (length m.spots)) ]
row-below m w Feeders p = elim (cases_Bool (wire_at m.plan p)) [ inl e ↦ rw e (numbers-below m w (feeders m.plan p) (feeder_things m w p)) | inr e ↦ rw e (empty-below (length m.spots)) ]

pub rows-below : (m : Numbered) → IsNumbered m → (kind : Kind) → AllBelow (length m.spots) (map (row_of m kind) m.spots)
rows-below m w kind i = elim (cases_lt i (length m.spots)) [
  | inl l ↦ rw (get_or-map (row_of m kind) m.spots i origin [] l) (row-below m w kind (slice_index_or m.spots i origin))
  | inr l ↦ rw (get_or-eq_default (map (row_of m kind) m.spots) [] {n = i} (rw (length-map m.spots (row_of m kind)) l)) (empty-below (length m.spots))
]

pub rows-below_as : (m : Numbered) → IsNumbered m → (kind : Kind) (rows : List (List ℕ)) (count : ℕ) → rows ≡ map (row_of m kind) m.spots → count ≡ length m.spots → AllBelow count rows
rows-below_as m w kind rows count e f = subst (λ (n : ℕ). AllBelow n rows) (sym f) (subst (λ (rs : List (List ℕ)). AllBelow (length m.spots) rs) (sym e) (rows-below m w kind))

-- ---- what was made

pub made : (m : Numbered) → IsNumbered m → (t : Wired) (count : ℕ) → count ≡ length m.spots → t.parts ≡ map (part_at m.plan m.marks) m.spots → t.back ≡ map (row_of m Back) m.spots → t.side ≡ map (row_of m Side) m.spots → t.direct ≡ map (row_of m Direct) m.spots → t.feeders ≡ map (row_of m Feeders) m.spots →
    Turns (replicate count []) t.readers (λ reader tap. Has (list_at t.back reader) tap ⊎ Has (list_at t.side reader) tap) →
    Turns (replicate count []) t.driven (λ reader tap. ((reader < length (replicate {A = List ℕ} count [])) × (tap ≡ reader)) ⊎ Has (list_at t.direct reader) tap) → IsWired m t
made m w t count all parts back side direct feed read drive = record {
  parts = parts;
  back = back;
  side = side;
  direct = direct;
  feeders = feed;
  readers = read.told;
  readers_below = within t.readers read.below;
  driven = λ wire tap h. drive.told wire tap (inr h);
  itself = λ tap h. drive.told tap tap (inl (rw (length-replicate {A = List ℕ} count [], all) h, refl));
  driven_below = within t.driven drive.below;
}
  where
    within : (rows : List (List ℕ)) → (AllBelow (length (replicate {A = List ℕ} count [])) (replicate count []) → AllBelow (length (replicate {A = List ℕ} count [])) rows) → AllBelow (length m.spots) rows
    within rows h = subst (λ (n : ℕ). AllBelow n rows) (length-replicate {A = List ℕ} count [] ∙ all) (h (empty_below count (length (replicate {A = List ℕ} count []))))

-- ---- what is listed is numbers of things

module _ (m : Numbered) (w : IsNumbered m) (t : Wired) (wired : IsWired m t) where
  pub back_below : AllBelow (length m.spots) t.back
  back_below = rows-below_as m w Back t.back (length m.spots) wired.back refl

  pub side_below : AllBelow (length m.spots) t.side
  side_below = rows-below_as m w Side t.side (length m.spots) wired.side refl

  pub direct_below : AllBelow (length m.spots) t.direct
  direct_below = rows-below_as m w Direct t.direct (length m.spots) wired.direct refl

pub fed_below : (m : Numbered) → IsNumbered m → AllBelow (length m.spots) (map (feeder_row m) m.spots)
fed_below m w = rows-below m w Feeders

-- a row that was taken out of its list
pub below_as : (n count : ℕ) (rows : List (List ℕ)) (i : ℕ) (row : List ℕ) → AllBelow n rows → row ≡ list_at rows i → count ≡ n → AreBelow count row
below_as n count rows i row below e f = subst (λ (k : ℕ). AreBelow k row) (sym f) (subst (AreBelow n) (sym e) (below i))
