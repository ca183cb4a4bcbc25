-- The nodes of the raw graph, by their places, and what they read.
use Rattle.std.proofs.Common.{◌≡◌, ◌≢◌, ℕ, zero, suc, ◌*◌, ◌≤◌, max, Bool, true, false, true≢false, List, [], ◌∷◌, ◌++◌, get_or, map, refl, sym, ◌∙◌, ap, subst, arith, inl, inr, Option, Some, None}
use Rattle.std.specs.Prelude.{is_some, if◌then◌else◌, ◌||◌}
use Rattle.std.specs.List.{flat_map}
use Rattle.std.proofs.lemmas.Bool.{cases_Bool, cases_lt}
use Rattle.std.proofs.lemmas.Bool.Decides.{nat_tests}
use Rattle.block_table.specs.declared.Side.{Side}
use Rattle.block_table.specs.declared.Side.TheVariants.{Down}
use Rattle.block_table.specs.declared.Block.{Block}
use Rattle.block_table.specs.declared.Block.TheVariants.{Wire, Torch, WallTorch, Repeater, Comparator, Lever, Button, Plate, RedstoneBlock, Lamp, Trapdoor, Weighted, Note}
use Rattle.block_table.specs.Facts.{opposite}
use Rattle.circuit.specs.declared.Pos.{Pos}
use Rattle.circuit.specs.declared.Cell.{Cell}
use Rattle.circuit.specs.declared.Readings.{Readings}
use Rattle.circuit.specs.Circuit.{State, out_at, outs, Each, EachBefore, Among}
use Rattle.circuit.specs.Bounds.{BoundedAt, Bounded}
use Rattle.circuit.proofs.Bounded.{outs_le}
use Rattle.circuit.proofs.Keys.{among_filter, once_filter}
use Rattle.build.specs.Place.{sides, same_place}
use Rattle.build.specs.SamePlace.{place_itself, place_one, places_apart}
use Rattle.build.specs.Plan.{Plan, IsWhole, entry, places, block_at}
use Rattle.build.specs.Marks.{is_marked}
use Rattle.build.specs.Outputs.{is_component}
use Rattle.build.specs.Roles.{role_of, role_at, base_of, base_at, direct_at}
use Rattle.wire_shape.specs.Shape.{across}
use Rattle.power_rules.specs.Power.{full}
use Rattle.power_rules.specs.Readings.{readings_at}
use Rattle.power_rules.specs.RightWires.{AreRight, wire_powers, levels}
use Rattle.power_rules.specs.WirePowers.{wires_right}
use Rattle.power_rules.specs.Bounded.{wire_cells-bounded, world_bounded}
use Rattle.power_rules.specs.World.{world_circuit}
use Rattle.power_rules.proofs.Listed.{world_listed}
use Rattle.graph.specs.declared.Group.{Group}
use Rattle.graph.specs.declared.Group.TheVariants.{Back, Side as Lateral}
use Rattle.graph.specs.declared.Link.{Link}
use Rattle.graph.specs.Graph.{Node, node_at}
use Rattle.graph.specs.Readings.{reading, back_of, readings_of}
use Rattle.graph.specs.RawNodes.{has_node, kind_of, bare_node, node_places}
use Rattle.wiring.specs.declared.Tap.{Tap}
use Rattle.wiring.specs.declared.Tap.TheVariants.{Direct, Wired}
use Rattle.wiring.specs.Taps.{back_taps, side_taps}
use Rattle.input_search.specs.Links.{From, wire_links, tap_links, through, back_links_of, side_links_of}
use Rattle.input_search.specs.Raw.{number_in, link_of, links_of, linked_node, raw}
use Rattle.wiring.proofs.Lists.{From_one, among-flat_map}
use Rattle.wiring.specs.Reads.{given_of, is_source, IsTap}
use Rattle.wiring.proofs.TapLaws.{back-is_tap, side-is_tap}
use Rattle.wiring.proofs.ReadLaws.{direct_places-source}
use Rattle.input_search.proofs.Distances.{brought, in-places, source-inside, IsLinked, links-linked}
use Rattle.input_search.proofs.Readings.{back-links, side-links}

-- ---- numbers of places

pub each-among : {K : Type 0} (P : K → Type 0) (keys : List K) (k : K) → Each P keys → Among keys k → P k
each-among P [] k e h = absurd h
each-among P (one ∷ keys) k e (inl h) = subst P (sym h) e.0
each-among P (one ∷ keys) k e (inr h) = each-among P keys k e.1 h

-- what stands under the number of a place is what was made of the place
pub number-at : {A : Type 0} (f : Pos → A) (ps : List Pos) (p : Pos) (d : A) → Among ps p → get_or (map f ps) (number_in ps p) d ≡ f p
number-at f [] p d h = absurd h
number-at f (q ∷ ps) p d h = elim (cases_Bool (same_place p q)) [
  | inl e ↦ rw e (ap f (sym (place_one p q e)))
  | inr e ↦ rw e (number-at f ps p d (elim h [
    | inl k ↦ absurd (true≢false (sym (place_itself p) ∙ ap (same_place p) k ∙ e))
    | inr k ↦ k
  ]))
]

-- an entry is made of a place, whose number is its key
pub record At_place (f : Pos → Node) (ps : List Pos) (key : ℕ) (node : Node) : Type 0 where
  pub place : Pos
  pub is_in : Among ps place
  pub stands : node ≡ f place
  pub number : EachBefore (λ p q. p ≢ q) ps → number_in ps place ≡ key

some_same : (m n : Node) → Some m ≡ Some n → n ≡ m
some_same m n e = cc

pub at_place : (f : Pos → Node) (ps : List Pos) (key : ℕ) (node : Node) → get_or (map (λ p. Some (f p)) ps) key None ≡ Some node → At_place f ps key node
at_place f [] key node h = absurd (cc)
at_place f (p ∷ ps) zero node h = record { place = p; is_in = inl refl; stands = some_same (f p) node h; number = λ once. rw (place_itself p) refl }
at_place f (p ∷ ps) (suc key) node h =
    let r : At_place f ps key node = at_place f ps key node h in
    record {
      place = r.place;
      is_in = inr r.is_in;
      stands = r.stands;
      number = λ once. rw (places_apart r.place p (λ e. each-among (λ q. p ≢ q) ps r.place once.0 r.is_in (sym e))) (ap suc (r.number once.1));
    }

-- ---- each link is from a source

through-sources : (b : Plan) (taps : List Tap) (l : From) → ((tap : Tap) → Among taps tap → IsTap b tap) → Among (through b taps) l → is_source (block_at b l.place) ≡ true
unfolding wire_links
through-sources b taps l h i =
    let r : From_one (tap_links b) taps l = among-flat_map (tap_links b) taps l i in
    of_tap r.it (h r.it r.is_in) r.gives
  where
    of_wire : (w : Pos) → Among (wire_links b w) l → is_source (block_at b l.place) ≡ true
    of_wire w k = let s : IsLinked b w l.place l.weight = (links-linked b w 16 l k).1 in direct_places-source b s.wire l.place s.read

    of_tap : (tap : Tap) → IsTap b tap → Among (tap_links b tap) l → is_source (block_at b l.place) ≡ true
    of_tap (Direct p) t (inl e) = subst (λ (x : From). is_source (block_at b x.place) ≡ true) (sym e) t
    of_tap (Direct p) t (inr k) = absurd k
    of_tap (Wired w) t k = of_wire w k

taps-of : (b : Plan) (f : Side → List Tap) → ((s : Side) (tap : Tap) → Among (f s) tap → IsTap b tap) → (ss : List Side) (tap : Tap) → Among (flat_map f ss) tap → IsTap b tap
taps-of b f h ss tap i = let r : From_one f ss tap = among-flat_map f ss tap i in h r.it tap r.gives

around-taps : (b : Plan) (p : Pos) (tap : Tap) → Among (flat_map (back_taps b false p) sides) tap → IsTap b tap
around-taps b p = taps-of b (back_taps b false p) (back-is_tap b false p) sides

pub back-sources : (b : Plan) (p : Pos) (k : Block) → block_at b p ≡ k → (l : From) → Among (back_links_of b p k) l → is_source (block_at b l.place) ≡ true
back-sources b p (Torch lit) e l h = through-sources b (back_taps b false p Down) l (back-is_tap b false p Down) h
back-sources b p (WallTorch facing lit) e l h = through-sources b (back_taps b false p (opposite facing)) l (back-is_tap b false p (opposite facing)) h
back-sources b p (Lamp lit) e l h = through-sources b (flat_map (back_taps b false p) sides) l (around-taps b p) h
back-sources b p (Trapdoor facing top powered) e l h = through-sources b (flat_map (back_taps b false p) sides) l (around-taps b p) h
back-sources b p (Note powered) e l h = through-sources b (flat_map (back_taps b false p) sides) l (around-taps b p) h
back-sources b p (Repeater delay facing powered) e l h = through-sources b (back_taps b true p facing) l (back-is_tap b true p facing) h
back-sources b p (Comparator facing subtract) e l h =
    through-sources b (back_taps b true p facing) l (back-is_tap b true p facing) (unless (direct_at b p facing) (through b (back_taps b true p facing)) h)
  where
    unless : (direct : Option ℕ) (links : List From) → Among (if is_some direct then [] else links) l → Among links l
    unless None links k = k
    unless (Some strength) links k = absurd k
back-sources b p (Wire n e s w power) h l i = through-sources b (Wired p ∷ []) l is_tap i
  where
    is_tap : (tap : Tap) → Among (Wired p ∷ []) tap → IsTap b tap
    is_tap tap (inl e) = subst (λ (t : Tap). IsTap b t) (sym e) (rw h refl)
    is_tap tap (inr k) = absurd k
back-sources b p _ e l h = absurd h

pub side-sources : (b : Plan) (p : Pos) (k : Block) (l : From) → Among (side_links_of b p k) l → is_source (block_at b l.place) ≡ true
side-sources b p (Repeater delay facing powered) l h = through-sources b (flat_map (side_taps b false p) (across facing)) l (taps-of b (side_taps b false p) (side-is_tap b false p) (across facing)) h
side-sources b p (Comparator facing subtract) l h = through-sources b (flat_map (side_taps b true p) (across facing)) l (taps-of b (side_taps b true p) (side-is_tap b true p) (across facing)) h
side-sources b p _ l h = absurd h

-- ---- each source has a node

source-component : (k : Block) (marked : Bool) → is_source k ≡ true → (is_component k || marked) ≡ true
source-component (Torch lit) marked h = refl
source-component (WallTorch facing lit) marked h = refl
source-component (Repeater delay facing powered) marked h = refl
source-component (Comparator facing subtract) marked h = refl
source-component (Lever face facing powered) marked h = refl
source-component (Button name face facing powered) marked h = refl
source-component (Plate name powered) marked h = refl
source-component (Weighted name power) marked h = refl
source-component RedstoneBlock marked h = refl
source-component _ marked h = absurd (true≢false (sym h))

pub in-nodes : (b : Plan) (marks : List Pos) (p : Pos) → is_source (block_at b p) ≡ true → Among (node_places b marks) p
unfolding node_places has_node
in-nodes b marks p h = among_filter (has_node b marks) (places b) p (in-places b p (source-inside b p h)) (source-component (block_at b p) _ h)

pub node-there : (b : Plan) (marks : List Pos) (p : Pos) → Among (node_places b marks) p →
    node_at (raw b marks) (number_in (node_places b marks) p) ≡ Some (linked_node b marks (node_places b marks) p)
unfolding raw
node-there b marks p h = number-at (λ q. Some (linked_node b marks (node_places b marks) q)) (node_places b marks) p None h

pub node-here : (b : Plan) (marks : List Pos) (key : ℕ) (node : Node) → node_at (raw b marks) key ≡ Some node →
    At_place (linked_node b marks (node_places b marks)) (node_places b marks) key node
unfolding raw
node-here b marks key node h = at_place (linked_node b marks (node_places b marks)) (node_places b marks) key node h

-- no place has two nodes
pub nodes-once : (b : Plan) (marks : List Pos) → EachBefore (λ p q. p ≢ q) (node_places b marks)
unfolding node_places
nodes-once b marks = once_filter (has_node b marks) (places b) (world_listed b marks).once

pub linked-pos : (b : Plan) (marks ps : List Pos) (p : Pos) → (linked_node b marks ps p).pos ≡ p
unfolding bare_node
linked-pos b marks ps p = refl

-- ---- what a source gives is what its place gives

full_on : (value : ℕ) → value ≤ 1 → full (15 * value) ≡ 15 * value
full_on value h = elim (cases_lt 0 value) [ inl e ↦ grind (arith, nat_tests, h, e) | inr e ↦ grind (arith, nat_tests, h, e) ]

source-given : (k : Block) (marked : Bool) (cell : Cell) → is_source k ≡ true → BoundedAt (role_of marked k) cell →
    given_of k (out_at (role_of marked k) (base_of k) cell) ≡ out_at (role_of marked k) (base_of k) cell
source-given (Torch lit) marked cell h e = full_on cell.value e
source-given (WallTorch facing lit) marked cell h e = full_on cell.value e
source-given (Repeater delay facing powered) marked cell h e = full_on cell.value e
source-given (Comparator facing subtract) marked cell h e = refl
source-given (Lever face facing powered) marked cell h e = full_on cell.value e
source-given (Button name face facing powered) marked cell h e = full_on cell.value e
source-given (Plate name powered) marked cell h e = full_on cell.value e
source-given (Weighted name power) marked cell h e = refl
source-given RedstoneBlock marked cell h e = refl
source-given _ marked cell h e = absurd (true≢false (sym h))

source-out : (b : Plan) (marks : List Pos) (s : State Pos) → Bounded (world_circuit b marks) s → (p : Pos) → is_source (block_at b p) ≡ true →
    given_of (block_at b p) (outs (world_circuit b marks) s p) ≡ outs (world_circuit b marks) s p
unfolding role_at base_at
source-out b marks s bounded p h = source-given (block_at b p) (is_marked marks p) (s.cells p) h (bounded.each p)

-- ---- readings of a list of links

reading-append : (given : ℕ → ℕ) (group : Group) (xs ys : List Link) → reading given group (xs ++ ys) ≡ max (reading given group xs) (reading given group ys)
reading-append given group [] ys = omega arith
reading-append given group (x ∷ xs) ys = omega (arith, reading-append given group xs ys)

reading-back : (given : ℕ → ℕ) (f : Pos → ℕ) (ps : List Pos) (xs : List From) → ((l : From) → Among xs l → given (number_in ps l.place) ≡ f l.place) →
    reading given Back (map (link_of ps Back) xs) ≡ brought f xs
reading-back given f ps [] h = refl
reading-back given f ps (x ∷ xs) h = omega (arith, h x (inl refl), reading-back given f ps xs (λ l k. h l (inr k)))

reading-side : (given : ℕ → ℕ) (f : Pos → ℕ) (ps : List Pos) (xs : List From) → ((l : From) → Among xs l → given (number_in ps l.place) ≡ f l.place) →
    reading given Lateral (map (link_of ps Lateral) xs) ≡ brought f xs
reading-side given f ps [] h = refl
reading-side given f ps (x ∷ xs) h = omega (arith, h x (inl refl), reading-side given f ps xs (λ l k. h l (inr k)))

no-back : (given : ℕ → ℕ) (ps : List Pos) (xs : List From) → reading given Back (map (link_of ps Lateral) xs) ≡ 0
no-back given ps [] = refl
no-back given ps (x ∷ xs) = omega (arith, no-back given ps xs)

no-side : (given : ℕ → ℕ) (ps : List Pos) (xs : List From) → reading given Lateral (map (link_of ps Back) xs) ≡ 0
no-side given ps [] = refl
no-side given ps (x ∷ xs) = omega (arith, no-side given ps xs)

readings_same : (x y u v : ℕ) → x ≡ u → y ≡ v → ◌≡◌ {A = Readings} (record { back = x; side = y }) (record { back = u; side = v })
readings_same x y u v e f = cc

-- ---- equal readings

module _ (b : Plan) (whole : IsWhole b) (marks : List Pos) (s : State Pos) (bounded : Bounded (world_circuit b marks) s) (given : ℕ → ℕ)
    (same : (key : ℕ) (node : Node) → node_at (raw b marks) key ≡ Some node → given key ≡ outs (world_circuit b marks) s node.pos) where
  abbrev out : Pos → ℕ
  out = outs (world_circuit b marks) s

  abbrev ps : List Pos
  ps = node_places b marks

  abbrev source : Pos → ℕ
  source p = given_of (block_at b p) (out p)

  right : AreRight b out (entry b (wire_powers b out) 0)
  right = wires_right b out (wire_cells-bounded b out (outs_le (world_circuit b marks) (world_bounded b whole marks) s bounded))

  gives : (p : Pos) → is_source (block_at b p) ≡ true → given (number_in ps p) ≡ source p
  gives p h = same (number_in ps p) (linked_node b marks ps p) (node-there b marks p (in-nodes b marks p h)) ∙ ap out (linked-pos b marks ps p) ∙ sym (source-out b marks s bounded p h)

  back-brings : (p : Pos) → reading given Back (links_of b ps p) ≡ brought source (back_links_of b p (block_at b p))
  unfolding links_of
  back-brings p = omega (
    arith,
    reading-append given Back (map (link_of ps Back) (back_links_of b p (block_at b p))) (map (link_of ps Lateral) (side_links_of b p (block_at b p))),
    no-back given ps (side_links_of b p (block_at b p)),
    reading-back given source ps (back_links_of b p (block_at b p)) (λ l i. gives l.place (back-sources b p (block_at b p) refl l i)),
  )

  side-brings : (p : Pos) → reading given Lateral (links_of b ps p) ≡ brought source (side_links_of b p (block_at b p))
  unfolding links_of
  side-brings p = omega (
    arith,
    reading-append given Lateral (map (link_of ps Back) (back_links_of b p (block_at b p))) (map (link_of ps Lateral) (side_links_of b p (block_at b p))),
    no-side given ps (back_links_of b p (block_at b p)),
    reading-side given source ps (side_links_of b p (block_at b p)) (λ l i. gives l.place (side-sources b p (block_at b p) l i)),
  )

  linked-reads : (p : Pos) → readings_of given (linked_node b marks ps p) ≡ readings_at b (levels b out (wire_powers b out)) p
  unfolding bare_node readings_at
  linked-reads p =
      readings_same _ _ _ _
      (ap (back_of (kind_of b p (block_at b p))) (back-brings p) ∙ back-links b out (entry b (wire_powers b out) 0) right p (block_at b p) refl)
      (side-brings p ∙ side-links b out (entry b (wire_powers b out) 0) right p (block_at b p))

  pub node-reads : (key : ℕ) (node : Node) → node_at (raw b marks) key ≡ Some node → readings_of given node ≡ readings_at b (levels b out (wire_powers b out)) node.pos
  node-reads key node h =
      let r = node-here b marks key node h in
      ap (λ (n : Node). readings_of given n) r.stands ∙ linked-reads r.place ∙ ap (readings_at b (levels b out (wire_powers b out))) (sym (ap (λ (n : Node). n.pos) r.stands ∙ linked-pos b marks ps r.place))
