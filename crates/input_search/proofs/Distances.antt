-- The power of a wire is the greatest that its links bring.
use Rattle.std.proofs.Common.{◌≡◌, ℕ, zero, suc, ◌+◌, ◌-◌, ◌<◌, ◌≤◌, Bool, true, false, true≢false, List, [], ◌∷◌, length, map, filter, refl, sym, ◌∙◌, ap, subst, arith, inl, inr}
use Rattle.std.specs.Prelude.{◌||◌, ◌&&◌, not, Contains}
use Rattle.std.specs.List.{flat_map}
use Rattle.std.proofs.lemmas.Bool.{and_parts, cases_Bool, cases_lt}
use Rattle.wire_net.specs.Net.{greatest}
use Rattle.block_table.specs.declared.Block.{Block}
use Rattle.block_table.specs.declared.Block.TheVariants.{Wire}
use Rattle.circuit.specs.declared.Pos.{Pos}
use Rattle.circuit.specs.Circuit.{Among}
use Rattle.circuit.proofs.Keys.{among_filter}
use Rattle.build.specs.Place.{sides, same_place}
use Rattle.build.specs.SamePlace.{place_one, place_itself}
use Rattle.build.specs.Plan.{Plan, in_box, cell_of, places, block_at}
use Rattle.build.specs.Places.{IsInside, inside, cell_below, place-cell, length-places, places-at, entry-outside}
use Rattle.wire_shape.specs.Shape.{is_wire, wire_at}
use Rattle.wire_shape.specs.Feeders.{feeders}
use Rattle.wire_shape.specs.FeederFacts.{feeder-wire}
use Rattle.wire_shape.specs.WirePlaces.{wire_inside}
use Rattle.power_rules.specs.Power.{undusted, read_no_dust}
use Rattle.power_rules.specs.RightWires.{AreRight, source_power}
use Rattle.wiring.specs.declared.Tap.{Tap}
use Rattle.wiring.specs.declared.Tap.TheVariants.{Direct, Wired}
use Rattle.wiring.specs.Taps.{back_taps}
use Rattle.input_search.specs.Links.{From, at_weight, among, direct_of, direct_places, wires_in, sources_in, links_below, wire_links}
use Rattle.input_search.specs.Distances.{Steps, Here, Onward}
use Rattle.wiring.proofs.Lists.{From_one, From_map, Reached, greatest-flat_map, greatest-among, greatest-most, greatest-reached, among-append_left, among-append_right, among-append, among-flat_map, among-flat_map_back, among-filter, among-map, among-map_back, among-Contains, Contains-among}
use Rattle.wiring.specs.Reads.{given_of, tap_value, is_source, IsTap}
use Rattle.wiring.proofs.ReadLaws.{direct_places-source}
use Rattle.wiring.proofs.TapLaws.{read-taps, back-is_tap}

-- the greatest that links bring, where the node of a place gives so much
abbrev pub brought : (Pos → ℕ) → List From → ℕ
brought out links = greatest (map (λ l. out l.place - l.weight) links)

-- ---- places

pub among-in : (ps : List Pos) (p : Pos) → among ps p ≡ true → Among ps p
among-in [] p h = absurd (true≢false (sym h))
among-in (q ∷ ps) p h = elim (cases_Bool (same_place p q)) [
  | inl e ↦ inl (place_one p q e)
  | inr e ↦ inr (among-in ps p (rw e at h))
]

pub or-left : (s t : Bool) → s ≡ true → (s || t) ≡ true
or-left s t h = rw h refl

pub or-right : (s t : Bool) → t ≡ true → (s || t) ≡ true
or-right true t h = refl
or-right false t h = h

pub in-among : (ps : List Pos) (p : Pos) → Among ps p → among ps p ≡ true
in-among [] p h = absurd h
in-among (q ∷ ps) p (inl e) = or-left (same_place p q) (among ps p) (subst (λ (x : Pos). same_place p x ≡ true) e (place_itself p))
in-among (q ∷ ps) p (inr h) = or-right (same_place p q) (among ps p) (in-among ps p h)

pub in-places : (b : Plan) (p : Pos) → in_box b p ≡ true → Among (places b) p
in-places b p h =
    let i : IsInside b p = inside b p h in
    let below : cell_of b p < length (places b) = rw (length-places b) (cell_below b p i) in
    Contains-among (places b) p (cell_of b p, below, places-at b (cell_of b p) p (cell_below b p i) ∙ place-cell b p i)

pub source-inside : (b : Plan) (p : Pos) → is_source (block_at b p) ≡ true → in_box b p ≡ true
source-inside b p h = elim (cases_Bool (in_box b p)) [
  | inl e ↦ e
  | inr e ↦ absurd (true≢false (sym (rw (entry-outside b b.blocks _ p e) at h)))
]

-- ---- steps along feeders

feeder-is_wire : (b : Plan) (v u : Pos) → Among (feeders b v) u → wire_at b u ≡ true
feeder-is_wire b v u h = feeder-wire b v u (among-Contains (feeders b v) u h)

pub steps-wire : {b : Plan} {w v : Pos} {n : ℕ} → wire_at b w ≡ true → Steps b w v n → wire_at b v ≡ true
steps-wire h Here = h
steps-wire {b = b} h (Onward {v = v} {u = u} path c) = feeder-wire b v u c

first_step : {b : Plan} {w v u : Pos} {n : ℕ} → Contains (feeders b w) v → Steps b v u n → Steps b w u (suc n)
first_step c Here = Onward Here c
first_step c (Onward path d) = Onward (first_step c path) d

pub wires_in-steps : (b : Plan) (w : Pos) (n : ℕ) (v : Pos) → Among (wires_in b w n) v → Steps b w v n
unfolding wires_in
wires_in-steps b w zero v (inl e) = subst (λ (x : Pos). Steps b w x 0) (sym e) Here
wires_in-steps b w zero v (inr h) = absurd h
wires_in-steps b w (suc n) v h =
    let f : Among (places b) v × (among (flat_map (feeders b) (wires_in b w n)) v ≡ true) = among-filter (among (flat_map (feeders b) (wires_in b w n))) (places b) v h in
    let r : From_one (feeders b) (wires_in b w n) v = among-flat_map (feeders b) (wires_in b w n) v (among-in (flat_map (feeders b) (wires_in b w n)) v f.1) in
    Onward (wires_in-steps b w n r.it r.is_in) (among-Contains (feeders b r.it) v r.gives)

pub steps-wires_in : {b : Plan} {w v : Pos} {n : ℕ} → Steps b w v n → Among (wires_in b w n) v
unfolding wires_in
steps-wires_in Here = inl refl
steps-wires_in {b = b} {w = w} (Onward {v = v} {u = u} {n = n} path c) =
    among_filter (among (flat_map (feeders b) (wires_in b w n))) (places b) u
    (in-places b u (wire_inside b u (feeder-wire b v u c)))
    (in-among (flat_map (feeders b) (wires_in b w n)) u (among-flat_map_back (feeders b) (wires_in b w n) v u (steps-wires_in path) (Contains-among (feeders b v) u c)))

-- ---- the links of a wire tap

-- a wire that w reaches in n steps reads the component at s without dust
pub record IsLinked (b : Plan) (w s : Pos) (n : ℕ) : Type 0 where
  pub wire : Pos
  pub steps : Steps b w wire n
  pub read : Among (direct_places b wire) s

sources-linked : (b : Plan) (w s : Pos) (n : ℕ) → Among (sources_in b w n) s → IsLinked b w s n
sources-linked b w s n h =
    let r : From_one (direct_places b) (wires_in b w n) s = among-flat_map (direct_places b) (wires_in b w n) s h in
    record { wire = r.it; steps = wires_in-steps b w n r.it r.is_in; read = r.gives }

linked-sources : (b : Plan) (w s : Pos) (n : ℕ) → IsLinked b w s n → Among (sources_in b w n) s
linked-sources b w s n l = among-flat_map_back (direct_places b) (wires_in b w n) l.wire s (steps-wires_in l.steps) l.read

-- whether a source gets a link at this distance
abbrev pub is_new : List Pos → List From → Pos → Bool
is_new sources links s = among sources s && not (among (map (λ l. l.place) links) s)

and-both : (s t : Bool) → s ≡ true → t ≡ true → (s && t) ≡ true
and-both s t h k = rw h k

pub links-linked : (b : Plan) (w : Pos) (n : ℕ) (l : From) → Among (links_below b w n) l → (l.weight < n) × IsLinked b w l.place l.weight
unfolding links_below
links-linked b w zero l h = absurd h
links-linked b w (suc n) l h = elim (among-append (links_below b w n) (map (at_weight n) (filter (is_new (sources_in b w n) (links_below b w n)) (places b))) l h) [
  | inl k ↦ let r : (l.weight < n) × IsLinked b w l.place l.weight = links-linked b w n l k in (omega (arith, r.0), r.1)
  | inr k ↦ new (among-map (at_weight n) (filter (is_new (sources_in b w n) (links_below b w n)) (places b)) l k)
]
  where
    new : From_map (at_weight n) (filter (is_new (sources_in b w n) (links_below b w n)) (places b)) l → (l.weight < suc n) × IsLinked b w l.place l.weight
    new r =
        let f : Among (places b) r.it × (is_new (sources_in b w n) (links_below b w n) r.it ≡ true) = among-filter (is_new (sources_in b w n) (links_below b w n)) (places b) r.it r.is_in in
        let s : IsLinked b w r.it n = sources-linked b w r.it n (among-in (sources_in b w n) r.it (and_parts (among (sources_in b w n) r.it) (not (among (map (λ l. l.place) (links_below b w n)) r.it)) f.1).0) in
        subst (λ (x : From). (x.weight < suc n) × IsLinked b w x.place x.weight) r.is (omega arith, s)

-- a link from a node, of at most this weight
pub record HasLink (links : List From) (s : Pos) (n : ℕ) : Type 0 where
  pub link : From
  pub is_in : Among links link
  pub place : link.place ≡ s
  pub light : link.weight ≤ n

pub linked-links : (b : Plan) (w s : Pos) (n : ℕ) → in_box b s ≡ true → IsLinked b w s n → (k : ℕ) → n < k → HasLink (links_below b w k) s n
unfolding links_below
linked-links b w s n box l zero h = absurd (omega arith)
linked-links b w s n box l (suc k) h = elim (cases_lt n k) [
  | inl lt ↦
      let r : HasLink (links_below b w k) s n = linked-links b w s n box l k lt in
      record { link = r.link; is_in = among-append_left (links_below b w k) _ r.link r.is_in; place = r.place; light = r.light }
  | inr ge ↦ let e : n ≡ k = omega arith in at_end (subst (λ (m : ℕ). IsLinked b w s m) e l) (omega arith)
]
  where
    at_end : IsLinked b w s k → k ≤ n → HasLink (links_below b w (suc k)) s n
    at_end l m = elim (cases_Bool (among (map (λ l. l.place) (links_below b w k)) s)) [
      | inl e ↦
          let r : From_map (λ (l : From). l.place) (links_below b w k) s = among-map (λ (l : From). l.place) (links_below b w k) s (among-in (map (λ l. l.place) (links_below b w k)) s e) in
          let small : (r.it.weight < k) × IsLinked b w r.it.place r.it.weight = links-linked b w k r.it r.is_in in
          record { link = r.it; is_in = among-append_left (links_below b w k) _ r.it r.is_in; place = r.is; light = omega (arith, small.0) }
      | inr e ↦
          record {
            link = at_weight k s;
            is_in = among-append_right (links_below b w k) (map (at_weight k) (filter (is_new (sources_in b w k) (links_below b w k)) (places b))) (at_weight k s)
                (among-map_back (at_weight k) (filter (is_new (sources_in b w k) (links_below b w k)) (places b)) s
                (among_filter (is_new (sources_in b w k) (links_below b w k)) (places b) s (in-places b s box)
                (and-both (among (sources_in b w k) s) (not (among (map (λ l. l.place) (links_below b w k)) s))
                (in-among (sources_in b w k) s (linked-sources b w s k l)) (rw e refl))));
            place = refl;
            light = m;
          }
    ]

-- ---- powers

around-is_tap : (b : Plan) (v : Pos) (tap : Tap) → Among (flat_map (back_taps b false v) sides) tap → IsTap b tap
around-is_tap b v tap h =
    let r : From_one (back_taps b false v) sides tap = among-flat_map (back_taps b false v) sides tap h in
    back-is_tap b false v r.it tap r.gives

-- a source at some distance, which gives a wire its power
record Fed (b : Plan) (source power : Pos → ℕ) (w : Pos) : Type 0 where
  wire : Pos
  count : ℕ
  steps : Steps b w wire count
  gives : power w + count ≡ source_power b source wire

module _ (b : Plan) (source power : Pos → ℕ) (right : AreRight b source power) where
  -- what the node of a place gives
  abbrev pub out : Pos → ℕ
  out s = given_of (block_at b s) (source s)

  given-wire : (k : Block) (l : ℕ) → is_wire k ≡ true → given_of k l ≡ 0
  given-wire (Wire n e s w power) l h = refl
  given-wire _ l h = absurd (true≢false (sym h))

  dry-tap : (tap : Tap) → IsTap b tap → greatest (map out (direct_of tap)) ≡ tap_value b (undusted b source) tap
  unfolding undusted
  dry-tap (Direct p) t = elim (cases_Bool (wire_at b p)) [
    | inl e ↦ omega (arith, given-wire (block_at b p) (source p) e, given-wire (block_at b p) (undusted b source p) e)
    | inr e ↦ rw e (omega arith)
  ]
  dry-tap (Wired p) t = rw t refl

  -- the law of direct taps, for a wire as reader
  pub direct_places-greatest : (v : Pos) → greatest (map out (direct_places b v)) ≡ source_power b source v
  unfolding source_power
  direct_places-greatest v =
      greatest-flat_map out direct_of (tap_value b (undusted b source)) (flat_map (back_taps b false v) sides) (λ tap h. dry-tap tap (around-is_tap b v tap h))
      ∙ greatest-flat_map (tap_value b (undusted b source)) (back_taps b false v) (read_no_dust b source v) sides (λ s _. read-taps b (undusted b source) v s)

  direct_places-inside : (v s : Pos) → Among (direct_places b v) s → in_box b s ≡ true
  direct_places-inside v s h = source-inside b s (direct_places-source b v s h)

  -- a wire has at least what a wire that it reaches has, less the steps
  reached_below : {w v : Pos} {n : ℕ} → wire_at b w ≡ true → Steps b w v n → power v ≤ power w + n
  reached_below h Here = omega arith
  reached_below h (Onward {v = v} {u = u} path c) =
      omega (arith, reached_below h path, right.at_wires v (steps-wire h path), greatest-among (λ q. power q - 1) (feeders b v) u (Contains-among (feeders b v) u c))

  base-below : (v : Pos) → wire_at b v ≡ true → source_power b source v ≤ power v
  base-below v h = omega (arith, right.at_wires v h)

  fed_at : (d : ℕ) (w : Pos) → wire_at b w ≡ true → 15 ≤ power w + d → 0 < power w → Fed b source power w
  fed_at zero w h far some =
      record {
        wire = w;
        count = 0;
        steps = Here;
        gives = omega (arith, right.at_wires w h, right.small w, greatest-most (λ q. power q - 1) 14 (feeders b w) (λ q _. omega (arith, right.small q)));
      }
  fed_at (suc d) w h far some = elim (cases_lt (source_power b source w) (greatest (map (λ q. power q - 1) (feeders b w)))) [
    | inr l ↦ record { wire = w; count = 0; steps = Here; gives = omega (arith, right.at_wires w h) }
    | inl l ↦
        let t : Reached (λ q. power q - 1) (feeders b w) = greatest-reached (λ q. power q - 1) (feeders b w) (omega arith) in
        let e : power w + 1 ≡ power t.it = omega (arith, right.at_wires w h, t.is) in
        let next : Fed b source power t.it = fed_at d t.it (feeder-is_wire b w t.it t.is_in) (omega arith) (omega arith) in
        record {
          wire = next.wire;
          count = suc next.count;
          steps = first_step {b = b} {w = w} {v = t.it} {u = next.wire} {n = next.count} (among-Contains (feeders b w) t.it t.is_in) next.steps;
          gives = omega (arith, e, next.gives);
        }
  ]

  links-below : (w : Pos) → wire_at b w ≡ true → brought out (wire_links b w) ≤ power w
  unfolding wire_links
  links-below w h = greatest-most (λ (l : From). out l.place - l.weight) (power w) (links_below b w 16) (λ l i. each l (links-linked b w 16 l i).1)
    where
      each : (l : From) → IsLinked b w l.place l.weight → out l.place - l.weight ≤ power w
      each l k = omega (
        arith,
        greatest-among out (direct_places b k.wire) l.place k.read,
        direct_places-greatest k.wire,
        base-below k.wire (steps-wire h k.steps),
        reached_below h k.steps,
      )

  linked-brings : (links : List From) (s : Pos) (n : ℕ) → HasLink links s n → out s - n ≤ brought out links
  linked-brings links s n l =
      let same : out l.link.place ≡ out s = ap out l.place in
      omega (arith, same, l.light, greatest-among (λ (l : From). out l.place - l.weight) links l.link l.is_in)

  links-above : (w : Pos) → wire_at b w ≡ true → power w ≤ brought out (wire_links b w)
  unfolding wire_links
  links-above w h = elim (cases_lt 0 (power w)) [ inl some ↦ from_source some (fed_at 15 w h (omega arith) some) | inr none ↦ omega arith ]
    where
      from_source : 0 < power w → Fed b source power w → power w ≤ brought out (links_below b w 16)
      from_source some f =
          let small : f.count < 16 = omega (arith, f.gives, base-below f.wire (steps-wire h f.steps), right.small f.wire) in
          let r : Reached out (direct_places b f.wire) = greatest-reached out (direct_places b f.wire) (omega (arith, direct_places-greatest f.wire, f.gives)) in
          let l : HasLink (links_below b w 16) r.it f.count =
          linked-links b w r.it f.count (direct_places-inside f.wire r.it r.is_in) (record { wire = f.wire; steps = f.steps; read = r.is_in }) 16 small in
          omega (arith, direct_places-greatest f.wire, f.gives, r.is, linked-brings (links_below b w 16) r.it f.count l)

  -- the power of a wire is the greatest that its links bring
  pub wire_links-power : (w : Pos) → wire_at b w ≡ true → brought out (wire_links b w) ≡ power w
  wire_links-power w h = omega (arith, links-below w h, links-above w h)
