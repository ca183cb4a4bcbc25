-- After one thing gives something else: which base powers change, and where something else is read.
use Rattle.std.proofs.Common.{◌≡◌, ℕ, ◌<◌, ◌≤◌, true, false, List, [], ◌∷◌, length, map, Some, refl, sym, ◌∙◌, ap, subst, inl, inr, ◌⊎◌, slice_index}
use Rattle.std.specs.Prelude.{Contains}
use Rattle.std.proofs.lemmas.Bool.{cases_Bool, cases_lt}
use Rattle.std.proofs.lemmas.List.{get_or-map}
use Rattle.std.proofs.lemmas.Simd.{map-map}
use Rattle.circuit.specs.declared.Pos.{Pos}
use Rattle.circuit.specs.Circuit.{Among}
use Rattle.build.specs.Place.{same_place}
use Rattle.build.specs.SamePlace.{place_one}
use Rattle.wire_net.specs.Net.{Cell, cell_at, feeders_of, IsRight, WasRight}
use Rattle.wire_net.specs.Listed.{list_at}
use Rattle.wire_net.specs.WaveSteps.{Has}
use Rattle.wire_net.proofs.Lists.{at-default}
use Rattle.wire_shape.specs.Shape.{wire_at}
use Rattle.power_rules.specs.Readings.{readings_at}
use Rattle.wiring.specs.Reads.{back_places, side_places, direct_places, Agree}
use Rattle.wiring.specs.Things.{Numbered, IsNumbered, number_at, held, spot, origin}
use Rattle.wiring.specs.Numbers.{held-there, spot_number, spot-there}
use Rattle.wiring.specs.Wired.{Wired, IsWired, Taps, numbers_of, back_row, side_row, direct_row, feeder_row, base_for, level_cell, level_cells}
use Rattle.wiring.proofs.ReadLaws.{readings-agree, source-agree}
use Rattle.wiring.proofs.LevelLaws.{cells-at, cells-past, cells_bounded, numbers-have, AreThings, back_things, side_things}

-- two levels agree at all of these places, or D holds
pub agree-or : (f g : Pos → ℕ) (D : Type 0) (ps : List Pos) → ((q : Pos) → Among ps q → (f q ≡ g q) ⊎ D) → Agree f g ps ⊎ D
agree-or f g D [] h = inl (λ q k. absurd k)
agree-or f g D (p ∷ ps) h = both (h p (inl refl)) (agree-or f g D ps (λ q k. h q (inr k)))
  where
    at_head : f p ≡ g p → Agree f g ps → (q : Pos) → Among (p ∷ ps) q → f q ≡ g q
    at_head e rest q (inl same) = subst (λ (r : Pos). f r ≡ g r) (sym same) e
    at_head e rest q (inr k) = rest q k

    both : (f p ≡ g p) ⊎ D → Agree f g ps ⊎ D → Agree f g (p ∷ ps) ⊎ D
    both (inr d) rest = inr d
    both (inl e) (inr d) = inr d
    both (inl e) (inl rest) = inl (at_head e rest)

pub contains-of : (xs : List ℕ) (x : ℕ) → Has xs x → Contains xs x
contains-of xs x (k, low, h, e) = (k, h, at-default xs k x h ∙ e)

-- what feeds a thing doesn't depend on what is given
pub feeders-cells : (m : Numbered) (given : Pos → ℕ) → feeders_of (level_cells m given) ≡ map (feeder_row m) m.spots
feeders-cells m given = map-map (λ (c : Cell). c.feeders) (level_cell m given) m.spots

module _ (m : Numbered) (w : IsNumbered m) (t : Wired) (wired : IsWired m t) where
  row-back : (k : ℕ) → k < length m.spots → list_at t.back k ≡ back_row m (spot m k)
  row-back k h = ap (λ (rows : List (List ℕ)). list_at rows k) wired.back ∙ get_or-map (back_row m) m.spots k origin [] h

  row-side : (k : ℕ) → k < length m.spots → list_at t.side k ≡ side_row m (spot m k)
  row-side k h = ap (λ (rows : List (List ℕ)). list_at rows k) wired.side ∙ get_or-map (side_row m) m.spots k origin [] h

  row-direct : (k : ℕ) → k < length m.spots → list_at t.direct k ≡ direct_row m (spot m k)
  row-direct k h = ap (λ (rows : List (List ℕ)). list_at rows k) wired.direct ∙ get_or-map (direct_row m) m.spots k origin [] h

  -- ---- another thing is given at one place alone

  module _ (n : ℕ) (inside : n < length m.spots) (f g : Pos → ℕ) (other : (q : Pos) → same_place q (spot m n) ≡ false → f q ≡ g q) where
    abbrev pub changed : List ℕ
    changed = list_at t.driven n

    direct-or : (i : ℕ) → i < length m.spots → wire_at m.plan (spot m i) ≡ true → (q : Pos) → Among (direct_places m.plan (spot m i)) q → (f q ≡ g q) ⊎ Contains changed i
    direct-or i h wire q k = elim (cases_Bool (same_place q (spot m n))) [
      | inl s ↦
          let there : number_at m q ≡ Some n = ap (number_at m) (place_one q (spot m n) s) ∙ spot_number m w n inside in
          let row : direct_row m (spot m i) ≡ numbers_of m (direct_places m.plan (spot m i)) = rw wire refl in
          inr (contains-of changed i (wired.driven i n (subst (λ (xs : List ℕ). Has xs n) (sym (row-direct i h ∙ row)) (numbers-have m (direct_places m.plan (spot m i)) q n k there))))
      | inr apart ↦ inl (other q apart)
    ]

    itself-or : (i : ℕ) → i < length m.spots → (f (spot m i) ≡ g (spot m i)) ⊎ Contains changed i
    itself-or i h = elim (cases_Bool (same_place (spot m i) (spot m n))) [
      | inl s ↦
          let both : Some i ≡ Some n = sym (spot_number m w i h) ∙ ap (number_at m) (place_one (spot m i) (spot m n) s) ∙ spot_number m w n inside in
          let same : i ≡ n = cc in
          inr (contains-of changed i (subst (Has changed) (sym same) (wired.itself n inside)))
      | inr apart ↦ inl (other (spot m i) apart)
    ]

    base-wire : (p : Pos) → wire_at m.plan p ≡ true → Agree f g (direct_places m.plan p) → base_for m f p ≡ base_for m g p
    base-wire p wire same = rw wire (source-agree m.plan f g p same)

    base-other : (p : Pos) → wire_at m.plan p ≡ false → f p ≡ g p → base_for m f p ≡ base_for m g p
    base-other p dry same = rw dry same

    -- a base changes at the thing and at the wires that it drives alone
    pub base-or : (i : ℕ) → i < length m.spots → (base_for m f (spot m i) ≡ base_for m g (spot m i)) ⊎ Contains changed i
    base-or i h = elim (cases_Bool (wire_at m.plan (spot m i))) [
      | inl wire ↦ elim (agree-or f g (Contains changed i) (direct_places m.plan (spot m i)) (direct-or i h wire)) [
        | inl same ↦ inl (base-wire (spot m i) wire same)
        | inr c ↦ inr c
      ]
      | inr dry ↦ elim (itself-or i h) [
        | inl same ↦ inl (base-other (spot m i) dry same)
        | inr c ↦ inr c
      ]
    ]

    pub was_right : (levels : List ℕ) → ((p : Pos) → f p ≤ 15) → IsRight (level_cells m f) levels → WasRight (level_cells m g) levels (list_at t.driven n)
    was_right levels small right = record {
      before = level_cells m f;
      bounded = cells_bounded m f small;
      right = right;
      feeders = feeders-cells m f ∙ sym (feeders-cells m g);
      bases = bases;
    }
      where
        bases : (i : ℕ) → ((cell_at (level_cells m f) i).base ≡ (cell_at (level_cells m g) i).base) ⊎ Contains changed i
        bases i = elim (cases_lt i (length m.spots)) [
          | inl l ↦ elim (base-or i l) [
            | inl same ↦ inl (ap (λ (c : Cell). c.base) (cells-at m f i origin l) ∙ same ∙ sym (ap (λ (c : Cell). c.base) (cells-at m g i origin l)))
            | inr c ↦ inr c
          ]
          | inr past ↦ inl (ap (λ (c : Cell). c.base) (cells-past m f i past ∙ sym (cells-past m g i past)))
        ]

  -- ---- the levels change at these things alone

  module _ (old new : List ℕ) (Listed : ℕ → Type 0) (noted : (k : ℕ) → (slice_index new k ≡ slice_index old k) ⊎ Listed k) where
    -- a thing that changed is a tap of this one, which stands in its row of readers
    abbrev pub IsTold : ℕ → Type 0
    IsTold k = (tap : ℕ) × Listed tap × Has (list_at t.readers tap) k

    level-or : (k : ℕ) (ps : List Pos) → AreThings m ps → ((tap : ℕ) → Has (numbers_of m ps) tap → Taps t k tap) → (q : Pos) → Among ps q → (held m new 0 q ≡ held m old 0 q) ⊎ IsTold k
    level-or k ps things taps q h =
        let j = things q h in
        elim (noted j.0) [
          | inl same ↦ inl (held-there m new 0 q j.0 j.1 ∙ same ∙ sym (held-there m old 0 q j.0 j.1))
          | inr listed ↦ inr (j.0, listed, wired.readers k j.0 (taps j.0 (numbers-have m ps q j.0 h j.1)))
        ]

    -- each thing that is no wire reads what it read, or is told
    pub reads_or : (p : Pos) (k : ℕ) → number_at m p ≡ Some k → wire_at m.plan p ≡ false →
        (readings_at m.plan (held m new 0) p ≡ readings_at m.plan (held m old 0) p) ⊎ IsTold k
    reads_or p k there dry = both (agree-or (held m new 0) (held m old 0) (IsTold k) (back_places m.plan p) (level-or k (back_places m.plan p) (back_things m w p) by_back))
        (agree-or (held m new 0) (held m old 0) (IsTold k) (side_places m.plan p) (level-or k (side_places m.plan p) (side_things m w p) by_side))
      where
        place : (k < length m.spots) × (spot m k ≡ p)
        place = spot-there m w p k there

        by_back : (tap : ℕ) → Has (numbers_of m (back_places m.plan p)) tap → Taps t k tap
        by_back tap h =
            let row : back_row m p ≡ numbers_of m (back_places m.plan p) = rw dry refl in
            inl (subst (λ (xs : List ℕ). Has xs tap) (sym (row-back k place.0 ∙ ap (back_row m) place.1 ∙ row)) h)

        by_side : (tap : ℕ) → Has (numbers_of m (side_places m.plan p)) tap → Taps t k tap
        by_side tap h = inr (subst (λ (xs : List ℕ). Has xs tap) (sym (row-side k place.0 ∙ ap (side_row m) place.1)) h)

        both : Agree (held m new 0) (held m old 0) (back_places m.plan p) ⊎ IsTold k → Agree (held m new 0) (held m old 0) (side_places m.plan p) ⊎ IsTold k →
            (readings_at m.plan (held m new 0) p ≡ readings_at m.plan (held m old 0) p) ⊎ IsTold k
        both (inr told) side = inr told
        both (inl back) (inr told) = inr told
        both (inl back) (inl side) = inl (readings-agree m.plan (held m new 0) (held m old 0) p back side)
