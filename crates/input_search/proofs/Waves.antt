-- A search for the links of a wire tap that looks at each wire once.
use Rattle.std.proofs.Common.{◌≡◌, ℕ, zero, suc, ◌+◌, ◌<◌, ◌≤◌, Bool, true, false, not, List, [], ◌∷◌, ◌++◌, length, map, refl, sym, ◌∙◌, ap, subst, arith, inl, inr, ◌⊎◌, add-one, Some, None}
use Rattle.std.specs.Prelude.{filter, All, ◌&&◌, ◌||◌, replicate}
use Rattle.std.specs.List.{flat_map, range_with_len}
use Rattle.std.specs.Option.{option_map_or}
use Rattle.std.proofs.lemmas.Bool.{cases_Bool, false≢true}
use Rattle.std.proofs.lemmas.List.{map-append, length-replicate}
use Rattle.std.proofs.lemmas.List.Elements.{All-contains, filter_map-append}
use Rattle.std.proofs.lemmas.List.Folds.{list_any-append}
use Rattle.circuit.specs.declared.Pos.{Pos}
use Rattle.circuit.specs.Circuit.{Among}
use Rattle.circuit.proofs.Keys.{among_filter}
use Rattle.build.specs.Place.{same_place}
use Rattle.build.specs.Plan.{Plan, volume, in_box, place_of, places, found_cell}
use Rattle.build.specs.Places.{place_inside}
use Rattle.wire_shape.specs.Shape.{wire_at}
use Rattle.wire_shape.specs.Feeders.{feeders}
use Rattle.input_search.specs.Links.{From, at_weight, among, direct_places, wires_in, sources_in, links_below, with_distance}
use Rattle.input_search.specs.CellLists.{has_cell, kept_cells, cells_of, places_of, AreCells}
use Rattle.input_search.specs.Distances.{Steps, Here, Onward}
use Rattle.input_search.specs.Rows.{is_met, has_met, Gathers, GathersCells}
use Rattle.input_search.specs.Wiring.{wire_cells, source_cells, wire_place, wire_places, fed_row, read_row, AreLinked, IsAt}
use Rattle.input_search.proofs.CellOrder.{both, cell_among, cells_within}
use Rattle.wiring.proofs.ReadLaws.{direct_places-source}
use Rattle.input_search.proofs.Distances.{among-in, in-among, in-places, or-left, or-right, source-inside, steps-wire, wires_in-steps, steps-wires_in}
use Rattle.wiring.proofs.Lists.{From_one, From_map, among-flat_map, among-flat_map_back, among-filter, among-map, among-map_back, among-Contains, Contains-among}
use Rattle.cell_numbers.specs.Numbers.{number_in}
use Rattle.input_search.proofs.WireNumbers.{has-among, among-has, all-among, numbers-apart, Numbered, numbered, fed-places, fed-below}

-- ---- filters and tests

filter_same : (f g : Pos → Bool) → ((p : Pos) → f p ≡ g p) → (ps : List Pos) → filter f ps ≡ filter g ps
filter_same f g h [] = refl
filter_same f g h (p ∷ ps) = elim (cases_Bool (g p)) [
  | inl e ↦ rw (h p ∙ e, e) (ap (λ (qs : List Pos). p ∷ qs) (filter_same f g h ps))
  | inr e ↦ rw (h p ∙ e, e) (filter_same f g h ps)
]

-- the places of those cells that a list has are the places that pass a test
kept_by : (b : Plan) (xs : List ℕ) (test : Pos → Bool) → ((i : ℕ) → i < volume b → has_cell xs i ≡ test (place_of b i)) → (a n : ℕ) → a + n ≤ volume b
    → places_of b (filter (has_cell xs) (range_with_len a n)) ≡ filter test (places_of b (range_with_len a n))
kept_by b xs test h a zero l = refl
kept_by b xs test h a (suc n) l = elim (cases_Bool (has_cell xs a)) [
  | inl e ↦ rw (e, sym (h a (omega arith)) ∙ e) (ap (λ (qs : List Pos). place_of b a ∷ qs) (kept_by b xs test h (a + 1) n (omega arith)))
  | inr e ↦ rw (e, sym (h a (omega arith)) ∙ e) (kept_by b xs test h (a + 1) n (omega arith))
]

among-append_is : (ps qs : List Pos) (p : Pos) → among (ps ++ qs) p ≡ (among ps p || among qs p)
among-append_is ps qs p = list_any-append (same_place p) ps qs

places-at_weight : (n : ℕ) (ps : List Pos) → map (λ (l : From). l.place) (map (at_weight n) ps) ≡ ps
places-at_weight n [] = refl
places-at_weight n (p ∷ ps) = ap (λ (qs : List Pos). p ∷ qs) (places-at_weight n ps)

abbrev linked_places : List From → List Pos
linked_places links = map (λ (l : From). l.place) links

abbrev is_new : List Pos → List From → Pos → Bool
is_new ps links s = among ps s && not (among (linked_places links) s)

-- what links of one more distance come from
linked-next : (b : Plan) (n : ℕ) (ps : List Pos) (links : List From) → linked_places (with_distance b n ps links) ≡ linked_places links ++ filter (is_new ps links) (places b)
linked-next b n ps links =
    map-append (λ (l : From). l.place) links (map (at_weight n) (filter (is_new ps links) (places b)))
    ∙ ap (λ (qs : List Pos). linked_places links ++ qs) (places-at_weight n (filter (is_new ps links) (places b)))

among-filter_is : (test : Pos → Bool) (ps : List Pos) (p : Pos) → Among ps p → among (filter test ps) p ≡ test p
among-filter_is test ps p h =
    both (among (filter test ps) p) (test p) (λ e. (among-filter test ps p (among-in (filter test ps) p e)).1) (λ e. in-among (filter test ps) p (among_filter test ps p h e))

either : (l p : Bool) → (l || (p && not l)) ≡ (l || p)
either true p = refl
either false true = refl
either false false = refl

-- a place in the box has a link then, if it had one or is among these
linked_or : (b : Plan) (n : ℕ) (ps : List Pos) (links : List From) (s : Pos) → in_box b s ≡ true → among (linked_places (with_distance b n ps links)) s ≡ (among (linked_places links) s || among ps s)
linked_or b n ps links s h =
    ap (λ (qs : List Pos). among qs s) (linked-next b n ps links) ∙ among-append_is (linked_places links) (filter (is_new ps links) (places b)) s
    ∙ ap (λ (t : Bool). among (linked_places links) s || t) (among-filter_is (is_new ps links) (places b) s (in-places b s h))
    ∙ either (among (linked_places links) s) (among ps s)

-- ---- the links of one more distance

pub distance_found : (b : Plan) (n : ℕ) (ps : List Pos) (old new : List From) (met after : List Bool) (numbers found kept : List ℕ) → numbers ≡ cells_of b ps
    → AreLinked b old met → GathersCells (source_cells b) numbers met after [] found → ((m : ℕ) → All (λ i. i < m) found → kept ≡ kept_cells m found)
    → (AreCells b kept) × (new ≡ old ++ map (at_weight n) (places_of b kept) → (new ≡ with_distance b n ps old) × AreLinked b new after)
distance_found b n ps old new met after numbers found kept cells linked gathers in_order = (inside, λ added. (is added, next (is added)))
  where
    number_is : (i : ℕ) → i < volume b → has_cell numbers i ≡ among ps (place_of b i)
    number_is i h = ap (λ (xs : List ℕ). has_cell xs i) cells ∙ cell_among b ps i h

    found_is : (i : ℕ) → i < volume b → has_cell found i ≡ is_new ps old (place_of b i)
    found_is i h = gathers.found i ∙ (λ j. number_is i h j && not (linked.linked i h j))

    and-left : (s t : Bool) → (s && t) ≡ true → s ≡ true
    and-left true t h = refl
    and-left false t h = absurd (false≢true h)

    found-below : (i : ℕ) → Among found i → i < volume b
    found-below i h =
        let e : (has_cell numbers i && not (has_met (source_cells b) met i)) ≡ true = sym (gathers.found i) ∙ has-among found i h in
        let k : Among (cells_of b ps) i = subst (λ (xs : List ℕ). Among xs i) cells (among-has numbers i (and-left (has_cell numbers i) (not (has_met (source_cells b) met i)) e)) in
        All-contains (λ j. j < volume b) (cells_of b ps) i (cells_within b ps) (among-Contains (cells_of b ps) i k)

    below : All (λ i. i < volume b) found
    below = all-among (λ i. i < volume b) found found-below

    kept_is : kept ≡ kept_cells (volume b) found
    kept_is = in_order (volume b) below

    kept-below : (i : ℕ) → Among kept i → i < volume b
    kept-below i h =
        let k : Among (kept_cells (volume b) found) i = subst (λ (xs : List ℕ). Among xs i) kept_is h in
        found-below i (among-has found i (among-filter (has_cell found) (range_with_len 0 (volume b)) i k).1)

    inside : AreCells b kept
    inside = all-among (λ i. i < volume b) kept kept-below

    is : new ≡ old ++ map (at_weight n) (places_of b kept) → new ≡ with_distance b n ps old
    is added =
        added ∙ ap (λ (xs : List ℕ). old ++ map (at_weight n) (places_of b xs)) kept_is
        ∙ ap (λ (qs : List Pos). old ++ map (at_weight n) qs) (kept_by b found (is_new ps old) found_is 0 (volume b) (omega arith))

    next : new ≡ with_distance b n ps old → AreLinked b new after
    next e = record {
      size = gathers.size ∙ linked.size;
      linked = λ i h.
          gathers.met i ∙ (λ j. linked.linked i h j || number_is i h j) ∙ sym (linked_or b n ps old (place_of b i) (place_inside b i h))
          ∙ ap (λ (links : List From). among (linked_places links) (place_of b i)) (sym e);
    }

none_met : (n i : ℕ) → is_met (replicate n false) i ≡ false
none_met zero i = refl
none_met (suc n) zero = refl
none_met (suc n) (suc i) = none_met n i

-- the rows of what wires read are the cells of what they read
pub rows-read : (b : Plan) (wires : List ℕ) → flat_map (read_row b) wires ≡ cells_of b (flat_map (direct_places b) (wire_places b (wire_cells b) wires))
unfolding read_row
rows-read b [] = refl
rows-read b (x ∷ wires) =
    ap (λ (xs : List ℕ). cells_of b (direct_places b (wire_place b (wire_cells b) x)) ++ xs) (rows-read b wires)
    ∙ sym (filter_map-append (found_cell b) (direct_places b (wire_place b (wire_cells b) x)) (flat_map (direct_places b) (wire_places b (wire_cells b) wires)))

none_has_met : (listed : List ℕ) (n i : ℕ) → has_met listed (replicate n false) i ≡ false
unfolding has_met
none_has_met listed n i = elim (number_in listed i) as (λ found. option_map_or (is_met (replicate n false)) found false ≡ false) [ None ↦ refl | Some number ↦ none_met n number ]

-- no link, and nothing met
pub none_linked : (b : Plan) (links : List From) (met : List Bool) → links ≡ [] → met ≡ replicate (length (source_cells b)) false → AreLinked b links met
none_linked b links met e f = record {
  size = ap length f ∙ length-replicate (length (source_cells b)) false;
  linked = λ i h. ap (λ (bs : List Bool). has_met (source_cells b) bs i) f ∙ none_has_met (source_cells b) (length (source_cells b)) i ∙ ap (λ (ls : List From). among (linked_places ls) (place_of b i)) (sym e);
}

pub no_links : (b : Plan) (w : Pos) → links_below b w 0 ≡ []
unfolding links_below
no_links b w = refl

pub links_on : (b : Plan) (w : Pos) (n : ℕ) (old new : List From) → old ≡ links_below b w n → new ≡ with_distance b n (sources_in b w n) old → new ≡ links_below b w (n + 1)
unfolding links_below
links_on b w n old new e f = f ∙ ap (with_distance b n (sources_in b w n)) e ∙ rw add-one refl

-- ---- levels of wires

level-next : (b : Plan) (w v u : Pos) (n : ℕ) → Among (wires_in b w n) v → Among (feeders b v) u → Among (wires_in b w (suc n)) u
level-next b w v u n h k = steps-wires_in (Onward (wires_in-steps b w n v h) (among-Contains (feeders b v) u k))

level_start : (b : Plan) (w v : Pos) → Among (wires_in b w 0) v → v ≡ w
unfolding wires_in
level_start b w v (inl e) = e
level_start b w v (inr h) = absurd h

and_true : (t : Bool) → (t && true) ≡ t
and_true true = refl
and_true false = refl

-- a wire one step before
record Behind (b : Plan) (w u : Pos) (n : ℕ) : Type 0 where
  wire : Pos
  is_in : Among (wires_in b w n) wire
  feeds : Among (feeders b wire) u

behind : {b : Plan} {w u : Pos} {n : ℕ} → Steps b w u (suc n) → Behind b w u n
behind {b = b} (Onward {v = v} {u = u} path c) = record { wire = v; is_in = steps-wires_in path; feeds = Contains-among (feeders b v) u c }

module _ (b : Plan) (w : Pos) (is_wire : wire_at b w ≡ true) where
  abbrev cells : List ℕ
  cells = wire_cells b

  abbrev at : ℕ → Pos
  at i = wire_place b (wire_cells b) i

  level-wire : (n : ℕ) (v : Pos) → Among (wires_in b w n) v → wire_at b v ≡ true
  level-wire n v h = steps-wire is_wire (wires_in-steps b w n v h)

  number_of : (n : ℕ) (v : Pos) → Among (wires_in b w n) v → Numbered b cells refl v
  number_of n v h = numbered b cells refl v (level-wire n v h)

  row-feeds : (n j : ℕ) → Among (fed_row b n) j → Among (feeders b (at n)) (at j)
  row-feeds n j h = subst (λ (ps : List Pos). Among ps (at j)) (fed-places b n) (among-map_back at (fed_row b n) j h)

  row-below : (n j : ℕ) → Among (fed_row b n) j → j < length cells
  row-below n j h = All-contains (λ i. i < length cells) (fed_row b n) j (fed-below b n) (among-Contains (fed_row b n) j h)

  feeds-row : (n j : ℕ) → j < length cells → Among (feeders b (at n)) (at j) → Among (fed_row b n) j
  feeds-row n j l k =
      let r : From_map at (fed_row b n) (at j) = among-map at (fed_row b n) (at j) (subst (λ (ps : List Pos). Among ps (at j)) (sym (fed-places b n)) k) in
      let same : r.it ≡ j = numbers-apart b cells refl r.it j (row-below n r.it r.is_in) l r.is in
      subst (Among (fed_row b n)) same r.is_in

  -- ---- where a search begins

  module _ (first : ℕ) (wires : List ℕ) (met : List Bool) (in_wires : first < length cells) (place : at first ≡ w) (gathers : Gathers (first ∷ []) (replicate (length cells) false) met [] wires) where
    start_met : (i : ℕ) → is_met met i ≡ has_cell (first ∷ []) i
    start_met i = gathers.met i ∙ ap (λ (t : Bool). t || has_cell (first ∷ []) i) (none_met (length cells) i)

    start_found : (i : ℕ) → has_cell wires i ≡ has_cell (first ∷ []) i
    start_found i = gathers.found i ∙ ap (λ (t : Bool). has_cell (first ∷ []) i && not t) (none_met (length cells) i) ∙ and_true (has_cell (first ∷ []) i)

    only : (i : ℕ) → has_cell (first ∷ []) i ≡ true → i ≡ first
    only i h = one (among-has (first ∷ []) i h)
      where
        one : Among (first ∷ []) i → i ≡ first
        one (inl e) = e
        one (inr k) = absurd k

    found-first : (i : ℕ) → Among wires i → i ≡ first
    found-first i h = only i (sym (start_found i) ∙ has-among wires i h)

    -- nothing but the first was met
    no_other : (A : Type 0) (i : ℕ) → is_met met i ≡ true → has_cell wires i ≡ false → A
    no_other A i h k = absurd (false≢true (sym k ∙ start_found i ∙ sym (start_met i) ∙ h))

    pub at_start : IsAt b w cells 0 wires met []
    at_start = record {
      below = all-among (λ i. i < length cells) wires (λ i h. subst (λ (k : ℕ). k < length cells) (sym (found-first i h)) in_wires);
      reached = λ i h. subst (Among (wires_in b w 0)) (sym (ap at (found-first i h) ∙ place)) (steps-wires_in Here);
      size = gathers.size ∙ length-replicate (length cells) false;
      all = λ i h k. start_met i ∙ has-among (first ∷ []) i (inl (numbers-apart b cells refl i first h in_wires (level_start b w (at i) k ∙ sym place)));
      read = λ i h m k s r. no_other (◌≡◌ (among (linked_places []) s) true) i m k;
      fed = λ i j h l m k f. no_other (is_met met j ≡ true) i m k;
    }

  module _ (n : ℕ) (wires : List ℕ) (met : List Bool) (links : List From) (here : IsAt b w cells n wires met links) where
    abbrev sources : List Pos
    sources = flat_map (direct_places b) (wire_places b cells wires)

    wire-below : (i : ℕ) → Among wires i → i < length cells
    wire-below i h = All-contains (λ i. i < length cells) wires i here.below (among-Contains wires i h)

    source-in : (i : ℕ) (s : Pos) → Among wires i → Among (direct_places b (at i)) s → Among sources s
    source-in i s h k = among-flat_map_back (direct_places b) (wire_places b cells wires) (at i) s (among-map_back at wires i h) k

    -- a source in n steps is read by one of the wires, or has a link
    source-old : (s : Pos) → Among (sources_in b w n) s → (Among sources s) ⊎ (among (linked_places links) s ≡ true)
    source-old s h =
        let r : From_one (direct_places b) (wires_in b w n) s = among-flat_map (direct_places b) (wires_in b w n) s h in
        let v : Numbered b cells refl r.it = number_of n r.it r.is_in in
        let in_level : Among (wires_in b w n) (at v.number) = subst (Among (wires_in b w n)) (sym v.place) r.is_in in
        let reads : Among (direct_places b (at v.number)) s = subst (λ (p : Pos). Among (direct_places b p) s) (sym v.place) r.gives in
        elim (cases_Bool (has_cell wires v.number)) [
          | inl e ↦ inl (source-in v.number s (among-has wires v.number e) reads)
          | inr e ↦ inr (here.read v.number v.below (here.all v.number v.below in_level) e s reads)
        ]

    source-new : (s : Pos) → Among sources s → Among (sources_in b w n) s
    source-new s h =
        let r : From_one (direct_places b) (wire_places b cells wires) s = among-flat_map (direct_places b) (wire_places b cells wires) s h in
        let m : From_map at wires r.it = among-map at wires r.it r.is_in in
        among-flat_map_back (direct_places b) (wires_in b w n) (at m.it) s (here.reached m.it m.is_in) (subst (λ (p : Pos). Among (direct_places b p) s) (sym m.is) r.gives)

    new_is : (s : Pos) → is_new sources links s ≡ is_new (sources_in b w n) links s
    new_is s = elim (cases_Bool (among (linked_places links) s)) [
      | inl e ↦ rw e (none (among sources s) ∙ sym (none (among (sources_in b w n) s)))
      | inr e ↦ ap (λ (t : Bool). t && not (among (linked_places links) s)) (both (among sources s) (among (sources_in b w n) s)
          (λ h. in-among (sources_in b w n) s (source-new s (among-in sources s h)))
          (λ h. there e (source-old s (among-in (sources_in b w n) s h))))
    ]
      where
        none : (t : Bool) → (t && false) ≡ false
        none true = refl
        none false = refl

        there : among (linked_places links) s ≡ false → (Among sources s) ⊎ (among (linked_places links) s ≡ true) → among sources s ≡ true
        there e (inl h) = in-among sources s h
        there e (inr h) = absurd (false≢true (sym e ∙ h))

    -- so the wires bring the links of this distance
    pub same_distance : with_distance b n sources links ≡ with_distance b n (sources_in b w n) links
    same_distance = ap (λ (ps : List Pos). links ++ map (at_weight n) ps) (filter_same (is_new sources links) (is_new (sources_in b w n) links) new_is (places b))

    -- ---- one step on

    module _ (next : List ℕ) (after : List Bool) (more : List From) (gathers : Gathers (flat_map (fed_row b) wires) met after [] next) (added : more ≡ with_distance b n sources links) where
      abbrev fed_by : List ℕ
      fed_by = flat_map (fed_row b) wires

      and-left : (s t : Bool) → (s && t) ≡ true → s ≡ true
      and-left true t h = refl
      and-left false t h = absurd (false≢true h)

      next-fed : (i : ℕ) → Among next i → From_one (fed_row b) wires i
      next-fed i h =
          let e : (has_cell fed_by i && not (is_met met i)) ≡ true = sym (gathers.found i) ∙ has-among next i h in
          among-flat_map (fed_row b) wires i (among-has fed_by i (and-left (has_cell fed_by i) (not (is_met met i)) e))

      next-below : (i : ℕ) → Among next i → i < length cells
      next-below i h = let r : From_one (fed_row b) wires i = next-fed i h in row-below r.it i r.gives

      next-reached : (i : ℕ) → Among next i → Among (wires_in b w (suc n)) (at i)
      next-reached i h =
          let r : From_one (fed_row b) wires i = next-fed i h in
          level-next b w (at r.it) (at i) n (here.reached r.it r.is_in) (row-feeds r.it i r.gives)

      -- what was met, and what one of the wires has in its row, is met
      still_met : (i : ℕ) → is_met met i ≡ true → is_met after i ≡ true
      still_met i h = gathers.met i ∙ or-left (is_met met i) (has_cell fed_by i) h

      now_met : (i j : ℕ) → Among wires i → j < length cells → Among (feeders b (at i)) (at j) → is_met after j ≡ true
      now_met i j h l k =
          gathers.met j
          ∙ or-right (is_met met j) (has_cell fed_by j) (has-among fed_by j (among-flat_map_back (fed_row b) wires i j h (feeds-row i j l k)))

      next-all : (i : ℕ) → i < length cells → Among (wires_in b w (suc n)) (at i) → is_met after i ≡ true
      next-all i h k =
          let r : Behind b w (at i) n = behind (wires_in-steps b w (suc n) (at i) k) in
          let v : Numbered b cells refl r.wire = number_of n r.wire r.is_in in
          let in_level : Among (wires_in b w n) (at v.number) = subst (Among (wires_in b w n)) (sym v.place) r.is_in in
          let feeds : Among (feeders b (at v.number)) (at i) = subst (λ (p : Pos). Among (feeders b p) (at i)) (sym v.place) r.feeds in
          elim (cases_Bool (has_cell wires v.number)) [
            | inl e ↦ now_met v.number i (among-has wires v.number e) h feeds
            | inr e ↦ still_met i (here.fed v.number i v.below h (here.all v.number v.below in_level) e feeds)
          ]

      -- what is met and not among the next wires was met before
      was_met : (i : ℕ) → is_met after i ≡ true → has_cell next i ≡ false → is_met met i ≡ true
      was_met i h k = split (is_met met i) (has_cell fed_by i) (sym (gathers.met i) ∙ h) (sym (gathers.found i) ∙ k)
        where
          split : (m f : Bool) → (m || f) ≡ true → (f && not m) ≡ false → m ≡ true
          split true f e g = refl
          split false true e g = absurd (false≢true (sym g))
          split false false e g = absurd (false≢true e)

      linked_more : (s : Pos) → Among (sources) s → among (linked_places more) s ≡ true
      linked_more s h =
          let r : From_one (direct_places b) (wire_places b cells wires) s = among-flat_map (direct_places b) (wire_places b cells wires) s h in
          let box : in_box b s ≡ true = source-inside b s (direct_places-source b r.it s r.gives) in
          ap (λ (ls : List From). among (linked_places ls) s) added ∙ linked_or b n sources links s box ∙ or-right (among (linked_places links) s) (among sources s) (in-among sources s h)

      still_linked : (s : Pos) → among (linked_places links) s ≡ true → among (linked_places more) s ≡ true
      still_linked s h =
          ap (λ (ls : List From). among (linked_places ls) s) added ∙ ap (λ (qs : List Pos). among qs s) (linked-next b n sources links)
          ∙ among-append_is (linked_places links) (filter (is_new sources links) (places b)) s
          ∙ or-left (among (linked_places links) s) (among (filter (is_new sources links) (places b)) s) h

      pub at_next : IsAt b w cells (n + 1) next after more
      at_next = rw add-one (record {
        below = all-among (λ i. i < length cells) next next-below;
        reached = next-reached;
        size = gathers.size ∙ here.size;
        all = next-all;
        read = λ i h m e s r. elim (cases_Bool (has_cell wires i)) [
          | inl now ↦ linked_more s (source-in i s (among-has wires i now) r)
          | inr old ↦ still_linked s (here.read i h (was_met i m e) old s r)
        ];
        fed = λ i j h l m e f. elim (cases_Bool (has_cell wires i)) [
          | inl now ↦ now_met i j (among-has wires i now) l f
          | inr old ↦ still_met j (here.fed i j h l (was_met i m e) old f)
        ];
      })
