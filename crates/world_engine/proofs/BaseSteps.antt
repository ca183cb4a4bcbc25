-- The bases of things anew, after one gives something else.
use Rattle.std.proofs.Common.{◌≡◌, ◌≢◌, ℕ, ◌+◌, ◌<◌, ◌≤◌, true, false, List, [], length, map, set, slice_index, Option, Some, None, refl, sym, ◌∙◌, ap, subst, inl, inr, ◌⊎◌, arith}
use Rattle.std.proofs.lemmas.Bool.{cases_Bool, cases_lt, false≢true}
use Rattle.std.proofs.Math.ListN.{get_or-eq_default}
use Rattle.std.proofs.lemmas.List.{length-set, length-map, get_or-map, get_or-set_same, get_or-set_other, ext_get_or}
use Rattle.circuit.specs.declared.Pos.{Pos}
use Rattle.circuit.specs.declared.Cell.{Cell}
use Rattle.circuit.specs.declared.Component.{Component}
use Rattle.circuit.specs.Component.{out, top}
use Rattle.circuit.specs.Circuit.{Among, out_at}
use Rattle.build.specs.Roles.{role_at, base_at}
use Rattle.build.specs.Place.{same_place}
use Rattle.build.specs.SamePlace.{place_one}
use Rattle.build.specs.Plan.{block_at}
use Rattle.wire_net.specs.Net.{Cell as NetCell, cell_at, IsClosed}
use Rattle.wire_net.specs.Laws.{nat_same}
use Rattle.wire_net.specs.Listed.{list_at}
use Rattle.wire_net.specs.WaveSteps.{Later}
use Rattle.wire_net.proofs.Lists.{has-of, later-next}
use Rattle.wire_shape.specs.Shape.{wire_at}
use Rattle.wire_shape.specs.Feeders.{feeders}
use Rattle.wire_shape.specs.FeederFacts.{feeders-few}
use Rattle.cell_queue.specs.Held.{Holding, cell_of}
use Rattle.wiring.specs.Reads.{IsPlain, direct_places}
use Rattle.wiring.specs.Things.{Numbered, IsNumbered, number_at, held, nothing, spot, origin, number_of}
use Rattle.wiring.specs.Numbers.{held-spot, spot_number, spot-there, number_of-there}
use Rattle.wiring.specs.Wired.{Wired, IsWired, base_for, bases_of, direct_row, feeder_row, level_cells, row_level}
use Rattle.wiring.proofs.ReadLaws.{source-taps, direct_places-source, source-dry}
use Rattle.wiring.proofs.LevelLaws.{row-places, direct_things, cells-at, cells-past, length-cells, fed_below}
use Rattle.wiring.proofs.Reached.{base-or}
use Rattle.world_engine.specs.Running.{given_by, AreWithin}
use Rattle.world_engine.specs.Levels.{AreSure, AreSureBelow, Unbased, Rebased, IsPlaying}
use Rattle.world_engine.proofs.LevelSteps.{given_other}

-- the base of a wire by those of its direct taps
pub base-row : (m : Numbered) → IsNumbered m → (given : Pos → ℕ) → IsPlain m.plan given → (bases : List ℕ) → AreSure m given bases → (p : Pos) → wire_at m.plan p ≡ true →
    row_level bases (direct_row m p) ≡ base_for m given p
base-row m w given plain bases sure p wire = rw wire (row-places m bases given (direct_places m.plan p) there ∙ sym (source-taps m.plan given plain p))
  where
    there : (q : Pos) → Among (direct_places m.plan p) q → slice_index bases (number_of m q) ≡ given q
    there q h =
        let n = direct_things m w p q h in
        let s = spot-there m w q n.0 n.1 in
        let dry : wire_at m.plan q ≡ false = source-dry (block_at m.plan q) (direct_places-source m.plan p q h) in
        ap (λ (k : ℕ). slice_index bases k) (number_of-there m q n.0 n.1) ∙ sure n.0 s.0 (ap (wire_at m.plan) s.1 ∙ dry) ∙ ap given s.1

pub base-dry : (m : Numbered) (given : Pos → ℕ) (p : Pos) → wire_at m.plan p ≡ false → given p ≡ base_for m given p
base-dry m given p dry = rw dry refl

pub bases-at : (m : Numbered) (given : Pos → ℕ) (bases : List ℕ) → bases ≡ bases_of m given → (k : ℕ) → k < length m.spots → slice_index bases k ≡ base_for m given (spot m k)
bases-at m given bases e k h = ap (λ (xs : List ℕ). slice_index xs k) e ∙ get_or-map (base_for m given) m.spots k origin 0 h

module _ (m : Numbered) (w : IsNumbered m) (t : Wired) (wired : IsWired m t) (n : ℕ) (inside : n < length m.spots) where
  apart : (k : ℕ) → k < length m.spots → k ≢ n → same_place (spot m k) (spot m n) ≡ false
  apart k h other = elim (cases_Bool (same_place (spot m k) (spot m n))) [
    | inl s ↦
        (let both : Some k ≡ Some n = sym (spot_number m w k h) ∙ ap (number_at m) (place_one (spot m k) (spot m n) s) ∙ spot_number m w n inside in
        let same : k ≡ n = cc in absurd (other same))
    | inr e ↦ e
  ]

  pub unbased : (f g : Pos → ℕ) → ((q : Pos) → same_place q (spot m n) ≡ false → f q ≡ g q) → (bases : List ℕ) → bases ≡ bases_of m f → Unbased m t g n bases
  unbased f g other bases e = record {
    whole = ap (λ (xs : List ℕ). length xs) e ∙ length-map m.spots (base_for m f);
    other = λ k h not dry. bases-at m f bases e k h ∙ sym (base-dry m f (spot m k) dry) ∙ other (spot m k) (apart k h not);
    each = λ k h. elim (base-or m w t wired n inside f g other k h) [
      | inl same ↦ inl (bases-at m f bases e k h ∙ same)
      | inr c ↦ inr (has-of (list_at t.driven n) k c)
    ];
  }

  -- the thing is a wire, and gives nothing
  pub rebased_wire : (given : Pos → ℕ) (bases : List ℕ) → Unbased m t given n bases → wire_at m.plan (spot m n) ≡ true → Rebased m t given n 0 bases
  rebased_wire given bases u wire = record { whole = u.whole; sure = λ k h dry. u.other k h (not k dry) dry; each = u.each }
    where
      not : (k : ℕ) → wire_at m.plan (spot m k) ≡ false → k ≢ n
      not k dry e = false≢true (sym dry ∙ ap (λ (j : ℕ). wire_at m.plan (spot m j)) e ∙ wire)

  pub rebased_other : (given : Pos → ℕ) (bases : List ℕ) (base : ℕ) → Unbased m t given n bases → base ≡ given (spot m n) → Rebased m t given n 0 (set bases n base)
  rebased_other given bases base u is = record {
    whole = length-set bases n base ∙ u.whole;
    sure = λ k h dry. sure k h dry (nat_same k n);
    each = λ k h. each k h (nat_same k n);
  }
    where
      sure : (k : ℕ) → k < length m.spots → wire_at m.plan (spot m k) ≡ false → (k ≡ n) ⊎ (k ≢ n) → slice_index (set bases n base) k ≡ given (spot m k)
      sure k h dry (inl e) = rw e (get_or-set_same bases n base 0 (omega (arith, u.whole, inside)) ∙ is)
      sure k h dry (inr not) = get_or-set_other bases n k base 0 not ∙ u.other k h not dry

      each : (k : ℕ) → k < length m.spots → (k ≡ n) ⊎ (k ≢ n) → (slice_index (set bases n base) k ≡ base_for m given (spot m k)) ⊎ Later (list_at t.driven n) 0 k
      each k h (inl e) = inr (rw e (wired.itself n inside))
      each k h (inr not) = elim (u.each k h) [ inl same ↦ inl (get_or-set_other bases n k base 0 not ∙ same) | inr later ↦ inr later ]

  -- one base more
  pub rebased_more : (given : Pos → ℕ) (bases : List ℕ) (i x base : ℕ) → Rebased m t given n i bases → x < length m.spots → x ≡ slice_index (list_at t.driven n) i → base ≡ base_for m given (spot m x) →
      Rebased m t given n (i + 1) (set bases x base)
  rebased_more given bases i x base r low there is = record {
    whole = length-set bases x base ∙ r.whole;
    sure = λ k h dry. sure k h dry (nat_same k x);
    each = λ k h. each k h (nat_same k x);
  }
    where
      here : slice_index (set bases x base) x ≡ base_for m given (spot m x)
      here = get_or-set_same bases x base 0 (omega (arith, r.whole, low)) ∙ is

      sure : (k : ℕ) → k < length m.spots → wire_at m.plan (spot m k) ≡ false → (k ≡ x) ⊎ (k ≢ x) → slice_index (set bases x base) k ≡ given (spot m k)
      sure k h dry (inl e) = ap (λ (j : ℕ). slice_index (set bases x base) j) e ∙ here ∙ ap (λ (j : ℕ). base_for m given (spot m j)) (sym e) ∙ sym (base-dry m given (spot m k) dry)
      sure k h dry (inr not) = get_or-set_other bases x k base 0 not ∙ r.sure k h dry

      each : (k : ℕ) → k < length m.spots → (k ≡ x) ⊎ (k ≢ x) → (slice_index (set bases x base) k ≡ base_for m given (spot m k)) ⊎ Later (list_at t.driven n) (i + 1) k
      each k h (inl e) = inl (ap (λ (j : ℕ). slice_index (set bases x base) j) e ∙ here ∙ ap (λ (j : ℕ). base_for m given (spot m j)) (sym e))
      each k h (inr not) = elim (r.each k h) [
        | inl same ↦ inl (get_or-set_other bases x k base 0 not ∙ same)
        | inr later ↦ elim (later-next (list_at t.driven n) i k later) [
          | inl e ↦ absurd (not (e ∙ sym there))
          | inr more ↦ inr more
        ]
      ]

  pub rebased_all : (given : Pos → ℕ) (bases : List ℕ) (i : ℕ) → length (list_at t.driven n) ≤ i → Rebased m t given n i bases → bases ≡ bases_of m given
  rebased_all given bases i past r =
      ext_get_or 0 bases (bases_of m given) (r.whole ∙ sym (length-map m.spots (base_for m given)))
      (λ k h. let low : k < length m.spots = omega (arith, r.whole) in right k low (r.each k low) ∙ sym (get_or-map (base_for m given) m.spots k origin 0 low))
    where
      right : (k : ℕ) → k < length m.spots → (slice_index bases k ≡ base_for m given (spot m k)) ⊎ Later (list_at t.driven n) i k → slice_index bases k ≡ base_for m given (spot m k)
      right k h (inl e) = e
      right k h (inr (j, above, short, there)) = absurd (omega arith)

pub unbased_put : (m : Numbered) → IsNumbered m → (t : Wired) (old : Holding) (bases xs : List ℕ) (feeders : List (List ℕ)) (n : ℕ) (cell : Cell) → IsPlaying m t old bases xs feeders → n < length m.spots →
    Unbased m t (given_by m (set old.cells n cell)) n bases
unbased_put m w t old bases xs feeders n cell playing inside =
    unbased m w t playing.wired n inside (given_by m old.cells) (given_by m (set old.cells n cell)) (given_other m w t playing.wired old.cells n cell playing.holding.whole inside) bases playing.based

-- ---- the cells of the net

pub cell-row : (m : Numbered) (given : Pos → ℕ) (rows : List (List ℕ)) → rows ≡ map (feeder_row m) m.spots → (i : ℕ) → list_at rows i ≡ (cell_at (level_cells m given) i).feeders
cell-row m given rows e i = elim (cases_lt i (length m.spots)) [
  | inl l ↦ ap (λ (rs : List (List ℕ)). list_at rs i) e ∙ get_or-map (feeder_row m) m.spots i origin [] l ∙ sym (ap (λ (c : NetCell). c.feeders) (cells-at m given i origin l))
  | inr past ↦ ap (λ (rs : List (List ℕ)). list_at rs i) e ∙ get_or-eq_default (map (feeder_row m) m.spots) [] {n = i} (rw (length-map m.spots (feeder_row m)) past) ∙ sym (ap (λ (c : NetCell). c.feeders) (cells-past m given i past))
]

pub cell-base : (m : Numbered) (given : Pos → ℕ) (bases : List ℕ) → bases ≡ bases_of m given → (i : ℕ) → slice_index bases i ≡ (cell_at (level_cells m given) i).base
cell-base m given bases e i = elim (cases_lt i (length m.spots)) [
  | inl l ↦ bases-at m given bases e i l ∙ sym (ap (λ (c : NetCell). c.base) (cells-at m given i origin l))
  | inr past ↦ ap (λ (xs : List ℕ). slice_index xs i) e ∙ get_or-eq_default (bases_of m given) 0 {n = i} (rw (length-map m.spots (base_for m given)) past) ∙ sym (ap (λ (c : NetCell). c.base) (cells-past m given i past))
]

row-short : (m : Numbered) (p : Pos) → length (feeder_row m p) ≤ 12
row-short m p = elim (cases_Bool (wire_at m.plan p)) [
  | inl e ↦ rw e (rw (length-map (feeders m.plan p) (number_of m)) (feeders-few m.plan p))
  | inr e ↦ rw e (omega arith)
]

pub cell-short : (m : Numbered) (given : Pos → ℕ) (i : ℕ) → length ((cell_at (level_cells m given) i).feeders) ≤ 12
cell-short m given i = elim (cases_lt i (length m.spots)) [
  | inl l ↦ rw (cells-at m given i origin l) (row-short m (spot m i))
  | inr past ↦ rw (cells-past m given i past) (omega arith)
]

pub level_closed : (m : Numbered) → IsNumbered m → (given : Pos → ℕ) → IsClosed (level_cells m given)
level_closed m w given i k h =
    rw (length-cells m given)
    (subst (λ (row : List ℕ). k < length row → slice_index row k < length m.spots) (cell-row m given (map (feeder_row m) m.spots) refl i) (fed_below m w i k) h)

-- ---- all bases

pub sure_start : (m : Numbered) (given : Pos → ℕ) (bases : List ℕ) → AreSureBelow m given 0 bases
sure_start m given bases k h dry = absurd (omega arith)

pub sure_wire : (m : Numbered) (given : Pos → ℕ) (i : ℕ) (bases : List ℕ) → wire_at m.plan (spot m i) ≡ true → AreSureBelow m given i bases → AreSureBelow m given (i + 1) bases
sure_wire m given i bases wire before k h dry = elim (nat_same k i) [
  | inl e ↦ absurd (false≢true (sym dry ∙ ap (λ (j : ℕ). wire_at m.plan (spot m j)) e ∙ wire))
  | inr n ↦ before k (omega arith) dry
]

pub sure_other : (m : Numbered) (given : Pos → ℕ) (i : ℕ) (bases : List ℕ) (base : ℕ) → i < length bases → base ≡ given (spot m i) → AreSureBelow m given i bases → AreSureBelow m given (i + 1) (set bases i base)
sure_other m given i bases base inside is before k h dry = elim (nat_same k i) [
  | inl e ↦ rw e (get_or-set_same bases i base 0 inside ∙ is)
  | inr n ↦ get_or-set_other bases i k base 0 n ∙ before k (omega arith) dry
]

-- the bases of the first i things are right
abbrev pub AreBasedBelow : Numbered → (Pos → ℕ) → ℕ → List ℕ → Type 0
AreBasedBelow m given i bases = (k : ℕ) → k < i → slice_index bases k ≡ base_for m given (spot m k)

pub based_start : (m : Numbered) (given : Pos → ℕ) (bases : List ℕ) → AreBasedBelow m given 0 bases
based_start m given bases k h = absurd (omega arith)

pub based_more : (m : Numbered) (given : Pos → ℕ) (i : ℕ) (bases : List ℕ) (base : ℕ) → i < length bases → base ≡ base_for m given (spot m i) → AreBasedBelow m given i bases → AreBasedBelow m given (i + 1) (set bases i base)
based_more m given i bases base inside is before k h = elim (nat_same k i) [
  | inl e ↦ rw e (get_or-set_same bases i base 0 inside ∙ is)
  | inr n ↦ get_or-set_other bases i k base 0 n ∙ before k (omega arith)
]

pub sure_more : (m : Numbered) (given : Pos → ℕ) (i : ℕ) (bases : List ℕ) (base : ℕ) → i < length bases → base ≡ base_for m given (spot m i) → AreSure m given bases → AreSure m given (set bases i base)
sure_more m given i bases base inside is before k h dry = elim (nat_same k i) [
  | inl e ↦ ap (λ (j : ℕ). slice_index (set bases i base) j) e ∙ get_or-set_same bases i base 0 inside ∙ is ∙ sym (base-dry m given (spot m i) (ap (λ (j : ℕ). wire_at m.plan (spot m j)) (sym e) ∙ dry)) ∙ ap (λ (j : ℕ). given (spot m j)) (sym e)
  | inr n ↦ get_or-set_other bases i k base 0 n ∙ before k h dry
]

pub based_all : (m : Numbered) (given : Pos → ℕ) (i : ℕ) (bases : List ℕ) → length bases ≡ length m.spots → length m.spots ≤ i → AreBasedBelow m given i bases → bases ≡ bases_of m given
based_all m given i bases whole past h =
    ext_get_or 0 bases (bases_of m given) (whole ∙ sym (length-map m.spots (base_for m given)))
    (λ k l. let low : k < length m.spots = omega (arith, whole) in h k (omega arith) ∙ sym (get_or-map (base_for m given) m.spots k origin 0 low))

-- ---- what a thing gives

out_some : (role : Option Component) (component : Component) (base : ℕ) (cell : Cell) → role ≡ Some component → out component cell.value ≡ out_at role base cell
out_some None component base cell e = absurd (cc)
out_some (Some one) component base cell e = let same : component ≡ one = cc in ap (λ (c : Component). out c cell.value) same

out_none : (role : Option Component) (base : ℕ) (cell : Cell) → role ≡ None → base ≡ out_at role base cell
out_none None base cell e = refl
out_none (Some one) base cell e = absurd (cc)

pub gives_value : (m : Numbered) → IsNumbered m → (cells : List Cell) (n : ℕ) → n < length m.spots → (component : Component) → role_at m.plan m.marks (spot m n) ≡ Some component →
    out component (cell_of cells n).value ≡ given_by m cells (spot m n)
gives_value m w cells n inside component role =
    sym (ap (λ (c : Cell). out component c.value) (held-spot m w cells nothing n inside))
    ∙ out_some (role_at m.plan m.marks (spot m n)) component (base_at m.plan (spot m n)) (held m cells nothing (spot m n)) role

pub gives_base : (m : Numbered) (cells : List Cell) (n : ℕ) → role_at m.plan m.marks (spot m n) ≡ None → base_at m.plan (spot m n) ≡ given_by m cells (spot m n)
gives_base m cells n role = out_none (role_at m.plan m.marks (spot m n)) (base_at m.plan (spot m n)) (held m cells nothing (spot m n)) role

pub within_value : (m : Numbered) → IsNumbered m → (cells : List Cell) (n : ℕ) → n < length m.spots → (component : Component) → AreWithin m cells → role_at m.plan m.marks (spot m n) ≡ Some component →
    (cell : Cell) → cell ≡ cell_of cells n → cell.value ≤ top component
within_value m w cells n inside component within role cell is =
    subst (λ (c : Cell). c.value ≤ top component) (held-spot m w cells nothing n inside ∙ sym is) (within (spot m n) component role)
