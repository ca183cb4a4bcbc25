-- After one thing holds another cell: which powers may change, and where something else may be read.
use Rattle.std.proofs.Common.{◌≡◌, ◌≢◌, ℕ, ◌<◌, Bool, true, false, cond, List, length, map, set, slice_index, Some, None, refl, sym, ◌∙◌, ap, subst, inl, inr, ◌⊎◌}
use Rattle.std.specs.Prelude.{Contains, Option}
use Rattle.std.proofs.Math.Path.{fun_ext}
use Rattle.std.proofs.Math.ListN.{get_or-eq_default}
use Rattle.std.proofs.lemmas.Bool.{cases_Bool, cases_lt, false≢true}
use Rattle.std.proofs.lemmas.Simd.{map-map}
use Rattle.circuit.specs.declared.Pos.{Pos}
use Rattle.circuit.specs.declared.Component.{Component}
use Rattle.circuit.specs.declared.Readings.{Readings}
use Rattle.circuit.specs.declared.Cell.{Cell}
use Rattle.circuit.specs.Circuit.{out_at, attended_at}
use Rattle.build.specs.Place.{same_place}
use Rattle.build.specs.SamePlace.{place_itself, place_one}
use Rattle.build.specs.Roles.{role_at, first_at, base_at}
use Rattle.wire_net.specs.Net.{Cell as NetCell, no_cell, cell_at, feeders_of, WasRight}
use Rattle.wire_net.specs.Noted.{Waved, IsNoted}
use Rattle.wire_shape.specs.Shape.{wire_at}
use Rattle.power_rules.specs.RightWires.{level_with}
use Rattle.replay_engine.specs.Near.{IsNearby, origin}
use Rattle.replay_engine.specs.Near.IsNearby.{Itself}
use Rattle.replay_engine.specs.Things.{Numbered, IsNumbered, number_at, held, nothing}
use Rattle.replay_engine.specs.Numbers.{number_wire, held-there}
use Rattle.replay_engine.specs.WireThings.{thing_cell, thing_cells, feeders_in, length-things, things-at}
use Rattle.replay_engine.specs.Given.{given_bounded}
use Rattle.replay_engine.specs.Running.{given_by, reads_of, spot, ArePowers, AreWithin, after_attending, OthersStill, IsReached}
use Rattle.replay_engine.proofs.Held.{held-set, spot_number, spot-there}
use Rattle.replay_engine.proofs.Locality.{SameNear, near-or, source-same, readings-same}
use Rattle.replay_engine.proofs.Nearness.{near_back}

-- what feeds a thing doesn't depend on what is given
pub feeders-things : (m : Numbered) (given : Pos → ℕ) → feeders_of (thing_cells m given) ≡ feeders_in m
feeders-things m given =
    map-map (λ (c : NetCell). c.feeders) (thing_cell m given) m.spots
    ∙ ap (λ (f : Pos → List ℕ). map f m.spots) (fun_ext same)
    ∙ sym (map-map (λ (c : NetCell). c.feeders) (thing_cell m (λ p. 0)) m.spots)
  where
    same : (p : Pos) → (thing_cell m given p).feeders ≡ (thing_cell m (λ p. 0) p).feeders
    same p = elim (cases_Bool (wire_at m.plan p)) [ inl e ↦ rw e refl | inr e ↦ rw e refl ]

base-same : (m : Numbered) (f g : Pos → ℕ) (p : Pos) → SameNear f g p → (thing_cell m f p).base ≡ (thing_cell m g p).base
base-same m f g p same = elim (cases_Bool (wire_at m.plan p)) [ inl e ↦ rw e (source-same m.plan f g p same) | inr e ↦ rw e refl ]

attended_at-reads : (time : ℕ) (role : Option Component) (first : Bool) (f g : Pos → Readings) (p : Pos) (cell : Cell) → f p ≡ g p → attended_at time role first f p cell ≡ attended_at time role first g p cell
attended_at-reads time role first f g p cell e = by_role role
  where
    by_role : (r : Option Component) → attended_at time r first f p cell ≡ attended_at time r first g p cell
    by_role None = refl
    by_role (Some component) = ap (λ (reads : Readings). attended_at time (Some component) first (λ q. reads) p cell) e

module _ (m : Numbered) (w : IsNumbered m) (old : List Cell) (n : ℕ) (cell : Cell) (long : length old ≡ length m.spots) (inside : n < length m.spots) where
  held_other : (q : Pos) → same_place q (spot m n) ≡ false → held m (set old n cell) nothing q ≡ held m old nothing q
  held_other q e = held-set m w old nothing cell (spot m n) q n long (spot_number m w n inside) ∙ ap (λ (t : Bool). cond t cell (held m old nothing q)) e

  given_other : (q : Pos) → same_place q (spot m n) ≡ false → given_by m old q ≡ given_by m (set old n cell) q
  given_other q e = sym (ap (λ (c : Cell). out_at (role_at m.plan m.marks q) (base_at m.plan q) c) (held_other q e))

  near_given : (p : Pos) (D : Type 0) → (IsNearby (spot m n) p → D) → SameNear (given_by m old) (given_by m (set old n cell)) p ⊎ D
  near_given p D h = near-or (given_by m old) (given_by m (set old n cell)) p D (λ q near. elim (cases_Bool (same_place q (spot m n))) [
    | inl s ↦ inr (h (subst (λ (r : Pos). IsNearby r p) (place_one q (spot m n) s) (near_back p q near)))
    | inr e ↦ inl (given_other q e)
  ])

  -- the powers were right, and base powers differ at no other things than those near it
  pub was_right : (powers changed : List ℕ) → AreWithin m old → ArePowers m old powers → ((p : Pos) (k : ℕ) → IsNearby (spot m n) p → wire_at m.plan p ≡ true → number_at m p ≡ Some k → Contains changed k) →
      WasRight (thing_cells m (given_by m (set old n cell))) powers changed
  was_right powers changed within right listed = record {
    before = thing_cells m (given_by m old);
    bounded = given_bounded m old within;
    right = right;
    feeders = feeders-things m (given_by m old) ∙ sym (feeders-things m (given_by m (set old n cell)));
    bases = bases;
  }
    where
      base_or : (i : ℕ) → i < length m.spots → (wire_at m.plan (spot m i) ≡ true) ⊎ (wire_at m.plan (spot m i) ≡ false) →
          ((thing_cell m (given_by m old) (spot m i)).base ≡ (thing_cell m (given_by m (set old n cell)) (spot m i)).base) ⊎ Contains changed i
      base_or i l (inr e) = inl (rw e refl)
      base_or i l (inl e) = elim (near_given (spot m i) (Contains changed i) (λ near. listed (spot m i) i near e (spot_number m w i l))) [
        | inl same ↦ inl (base-same m (given_by m old) (given_by m (set old n cell)) (spot m i) same)
        | inr c ↦ inr c
      ]

      bases : (i : ℕ) → ((cell_at (thing_cells m (given_by m old)) i).base ≡ (cell_at (thing_cells m (given_by m (set old n cell))) i).base) ⊎ Contains changed i
      bases i = elim (cases_lt i (length m.spots)) [
        | inl l ↦ elim (base_or i l (cases_Bool (wire_at m.plan (spot m i)))) [
          | inl same ↦ inl (ap (λ (c : NetCell). c.base) (things-at m (given_by m old) i origin l)
              ∙ same
              ∙ sym (ap (λ (c : NetCell). c.base) (things-at m (given_by m (set old n cell)) i origin l)))
          | inr c ↦ inr c
        ]
        | inr past ↦ inl (ap (λ (c : NetCell). c.base) (get_or-eq_default (thing_cells m (given_by m old)) no_cell {n = i} (rw (length-things m (given_by m old)) past)
            ∙ sym (get_or-eq_default (thing_cells m (given_by m (set old n cell))) no_cell {n = i} (rw (length-things m (given_by m (set old n cell))) past))))
      ]

  -- each place is reached, or attending changes nothing there
  pub reached_or_still : (powers new : List ℕ) (waves : Waved) → ((k : ℕ) → (slice_index new k ≡ slice_index powers k) ⊎ IsNoted waves k) → OthersStill m old powers (spot m n) → (time : ℕ) (p : Pos) →
      IsReached m (spot m n) waves p ⊎ (after_attending m time (reads_of m (set old n cell) new) p (held m (set old n cell) nothing p) ≡ held m (set old n cell) nothing p)
  reached_or_still powers new waves noted still time p = elim (cases_Bool (same_place p (spot m n))) [
    | inl s ↦ inl (inl (subst (IsNearby (spot m n)) (sym (place_one p (spot m n) s)) Itself))
    | inr apart ↦ elim (near-or before after p (IsReached m (spot m n) waves p) level) [
      | inl same ↦ inr (quiet apart (readings-same m.plan before after p same))
      | inr reached ↦ inl reached
    ]
  ]
    where
      before : Pos → ℕ
      before = level_with m.plan (given_by m old) (held m powers 0)

      after : Pos → ℕ
      after = level_with m.plan (given_by m (set old n cell)) (held m new 0)

      by_wire : (q : Pos) → wire_at m.plan q ≡ true → held m powers 0 q ≡ held m new 0 q → before q ≡ after q
      by_wire q e same = rw e same

      by_given : (q : Pos) → wire_at m.plan q ≡ false → given_by m old q ≡ given_by m (set old n cell) q → before q ≡ after q
      by_given q e same = rw e same

      level : (q : Pos) → IsNearby p q → (before q ≡ after q) ⊎ IsReached m (spot m n) waves p
      level q near = elim (cases_Bool (wire_at m.plan q)) [
        | inl e ↦
            let k = number_wire m w q e in
            elim (noted k.0) [
              | inl same ↦ inl (by_wire q e (held-there m powers 0 q k.0 k.1 ∙ sym same ∙ sym (held-there m new 0 q k.0 k.1)))
              | inr is ↦ inr (inr (k.0, is, subst (λ (r : Pos). IsNearby r p) (sym (spot-there m w q k.0 k.1).1) (near_back p q near)))
            ]
        | inr e ↦ elim (cases_Bool (same_place q (spot m n))) [
          | inl s ↦ inr (inl (subst (λ (r : Pos). IsNearby r p) (place_one q (spot m n) s) (near_back p q near)))
          | inr other ↦ inl (by_given q e (given_other q other))
        ]
      ]

      quiet : same_place p (spot m n) ≡ false → reads_of m old powers p ≡ reads_of m (set old n cell) new p →
          after_attending m time (reads_of m (set old n cell) new) p (held m (set old n cell) nothing p) ≡ held m (set old n cell) nothing p
      quiet apart reads =
          let other : p ≢ spot m n = λ e. false≢true (sym apart ∙ ap (λ (q : Pos). same_place q (spot m n)) e ∙ place_itself (spot m n)) in
          sym (attended_at-reads time (role_at m.plan m.marks p) (first_at m.plan p) (reads_of m old powers) (reads_of m (set old n cell) new) p (held m (set old n cell) nothing p) reads)
          ∙ ap (λ (c : Cell). after_attending m time (reads_of m old powers) p c) (held_other p apart)
          ∙ still.each p other time
          ∙ sym (held_other p apart)
