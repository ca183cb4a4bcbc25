-- The raw graph is sound.
use Rattle.std.proofs.Common.{◌≡◌, ◌≢◌, ℕ, zero, suc, ◌<◌, ◌≤◌, Bool, true, false, true≢false, List, [], ◌∷◌, map, refl, sym, ◌∙◌, ap, subst, arith, inl, inr, Option, Some, None, ◌⊎◌}
use Rattle.std.specs.Prelude.{◌&&◌, nat_lt, nat_le, IsSome, IfSome, slice_get, is_some, if◌then◌else◌, cond}
use Rattle.std.specs.List.{flat_map, list_all}
use Rattle.std.proofs.lemmas.Bool.{and_parts, cases_Bool, ltb-true, leb-true}
use Rattle.block_table.specs.declared.Side.TheVariants.{Down}
use Rattle.block_table.specs.declared.Block.{Block}
use Rattle.block_table.specs.declared.Block.TheVariants.{Wire, Torch, WallTorch, Repeater, Comparator, Lever, Button, Plate, RedstoneBlock, Lamp, Trapdoor, Weighted, Note}
use Rattle.block_table.specs.Facts.{opposite}
use Rattle.block_table.specs.WrittenText.{is_listed, is_horizontal}
use Rattle.circuit.specs.declared.Pos.{Pos}
use Rattle.circuit.specs.Circuit.{Among, EachBefore}
use Rattle.circuit.specs.Bounds.{BoundedAt}
use Rattle.build.specs.declared.Pending.{Pending}
use Rattle.build.specs.Place.{beside, sides, same_place}
use Rattle.build.specs.SamePlace.{place_one}
use Rattle.build.specs.Plan.{Plan, IsWhole, entry, block_at, solid_at, strength_at, is_ticking, is_timely, may_wait}
use Rattle.build.specs.Marks.{is_marked}
use Rattle.build.specs.Roles.{first_wooden_button, role_of, role_at, stored_value, waiting_at, cell_with, stored_of, stored, direct_at, if_solid}
use Rattle.wire_shape.specs.Shape.{across}
use Rattle.power_rules.specs.Bounded.{strength-le, world_bounded}
use Rattle.graph.specs.declared.Group.{Group}
use Rattle.graph.specs.declared.Group.TheVariants.{Back, Side as Lateral}
use Rattle.graph.specs.declared.Link.{Link}
use Rattle.graph.specs.Graph.{Node, node_at, Lives}
use Rattle.graph.specs.GraphCircuit.{role_of as node_role}
use Rattle.graph.specs.RawNodes.{has_node, kind_of, state_of, unless_direct, bare_node, node_places}
use Rattle.graph.specs.Sound.{top_of, IsKindInRange, can_wait, IsSoundNode, places_of, IsSound}
use Rattle.wiring.specs.declared.Tap.{Tap}
use Rattle.wiring.specs.declared.Tap.TheVariants.{Direct, Wired}
use Rattle.wiring.specs.Taps.{back_taps, side_taps}
use Rattle.input_search.specs.Links.{From, wire_links, tap_links, through, back_links_of, side_links_of}
use Rattle.input_search.specs.Raw.{number_in, link_of, links_of, linked_node, raw}
use Rattle.wiring.proofs.Lists.{From_one, From_map, among-append, among-flat_map, among-map}
use Rattle.wiring.specs.Reads.{is_source}
use Rattle.input_search.proofs.Distances.{IsLinked, links-linked}
use Rattle.input_search.proofs.RawLaws.{At_place, back-sources, side-sources, in-nodes, node-there, node-here, nodes-once}
use Rattle.input_search.proofs.Shown.{taken}
use Rattle.input_search.proofs.RawWorld.{kind-role, node_place-has}

-- ---- links

through-light : (b : Plan) (taps : List Tap) (l : From) → Among (through b taps) l → l.weight ≤ 15
unfolding wire_links
through-light b taps l i =
    let r : From_one (tap_links b) taps l = among-flat_map (tap_links b) taps l i in
    of_tap r.it r.gives
  where
    of_tap : (tap : Tap) → Among (tap_links b tap) l → l.weight ≤ 15
    of_tap (Direct p) (inl e) = let z : l.weight ≡ 0 = ap (λ (x : From). x.weight) e in omega arith
    of_tap (Direct p) (inr k) = absurd k
    of_tap (Wired w) k = let s : (l.weight < 16) × IsLinked b w l.place l.weight = links-linked b w 16 l k in omega (arith, s.0)

back-light : (b : Plan) (p : Pos) (k : Block) (l : From) → Among (back_links_of b p k) l → l.weight ≤ 15
back-light b p (Torch lit) l h = through-light b (back_taps b false p Down) l h
back-light b p (WallTorch facing lit) l h = through-light b (back_taps b false p (opposite facing)) l h
back-light b p (Lamp lit) l h = through-light b (flat_map (back_taps b false p) sides) l h
back-light b p (Trapdoor facing top powered) l h = through-light b (flat_map (back_taps b false p) sides) l h
back-light b p (Note powered) l h = through-light b (flat_map (back_taps b false p) sides) l h
back-light b p (Repeater delay facing powered) l h = through-light b (back_taps b true p facing) l h
back-light b p (Comparator facing subtract) l h = through-light b (back_taps b true p facing) l (unless (direct_at b p facing) (through b (back_taps b true p facing)) h)
  where
    unless : (direct : Option ℕ) (links : List From) → Among (if is_some direct then [] else links) l → Among links l
    unless None links k = k
    unless (Some strength) links k = absurd k
back-light b p (Wire n e s w power) l h = through-light b (Wired p ∷ []) l h
back-light b p _ l h = absurd h

side-light : (b : Plan) (p : Pos) (k : Block) (l : From) → Among (side_links_of b p k) l → l.weight ≤ 15
side-light b p (Repeater delay facing powered) l h = through-light b (flat_map (side_taps b false p) (across facing)) l h
side-light b p (Comparator facing subtract) l h = through-light b (flat_map (side_taps b true p) (across facing)) l h
side-light b p _ l h = absurd h

some-is : {A : Type 0} (x y : A) → Some x ≡ Some y → y ≡ x
some-is x y e = cc

get-among : {A : Type 0} (xs : List A) (i : ℕ) (x : A) → slice_get xs i ≡ Some x → Among xs x
get-among [] i x h = absurd (cc)
get-among (y ∷ ys) zero x h = inl (some-is y x h)
get-among (y ∷ ys) (suc i) x h = inr (get-among ys i x h)

module _ (b : Plan) (marks : List Pos) where
  abbrev ps : List Pos
  ps = node_places b marks

  -- a link comes from a node, and its weight is at most 15
  abbrev IsGood : Link → Type 0
  IsGood link = (link.weight ≤ 15) × Lives (raw b marks) link.from

  some-there : (o : Option Node) (n : Node) → o ≡ Some n → IsSome o
  some-there o n e = subst (λ (x : Option Node). IsSome x) (sym e) refl

  source-good : (l : From) (group : Group) → l.weight ≤ 15 → is_source (block_at b l.place) ≡ true → IsGood (link_of ps group l)
  source-good l group w h = (w, some-there (node_at (raw b marks) (number_in ps l.place)) (linked_node b marks ps l.place) (node-there b marks l.place (in-nodes b marks l.place h)))

  links-good : (p : Pos) (link : Link) → Among (links_of b ps p) link → IsGood link
  unfolding links_of
  links-good p link i = elim (among-append (map (link_of ps Back) (back_links_of b p (block_at b p))) (map (link_of ps Lateral) (side_links_of b p (block_at b p))) link i) [
    | inl k ↦ (let r : From_map (link_of ps Back) (back_links_of b p (block_at b p)) link = among-map (link_of ps Back) (back_links_of b p (block_at b p)) link k in
        subst (λ (x : Link). IsGood x) r.is (source-good r.it Back (back-light b p (block_at b p) r.it r.is_in) (back-sources b p (block_at b p) refl r.it r.is_in)))
    | inr k ↦ (let r : From_map (link_of ps Lateral) (side_links_of b p (block_at b p)) link = among-map (link_of ps Lateral) (side_links_of b p (block_at b p)) link k in
        subst (λ (x : Link). IsGood x) r.is (source-good r.it Lateral (side-light b p (block_at b p) r.it r.is_in) (side-sources b p (block_at b p) r.it r.is_in)))
  ]

-- ---- ranges

cell_value : (value most : ℕ) (tick : Option Pending) → (cell_with value tick).value ≤ most → value ≤ most
cell_value value most None h = h
cell_value value most (Some tick) h = h

state-top : (k : Block) (marked : Bool) (level : ℕ) (tick : Option Pending) → taken marked k ≡ true →
    BoundedAt (role_of marked k) (stored_of (role_of marked k) (stored_value k level) tick) → state_of k level ≤ top_of (role_of marked k)
state-top (Lever face facing powered) marked level tick t h = cell_value _ 1 tick h
state-top (Button name face facing powered) marked level tick t h = cell_value _ 1 tick h
state-top (Plate name powered) marked level tick t h = cell_value _ 1 tick h
state-top (Weighted name power) marked level tick t h = cell_value _ 15 tick h
state-top (Torch lit) marked level tick t h = cell_value _ 1 tick h
state-top (WallTorch facing lit) marked level tick t h = cell_value _ 1 tick h
state-top (Repeater delay facing powered) marked level tick t h = cell_value _ 1 tick h
state-top (Comparator facing subtract) marked level tick t h = cell_value _ 15 tick h
state-top (Lamp lit) marked level tick t h = cell_value _ 1 tick h
state-top (Trapdoor facing top powered) marked level tick t h = cell_value _ 1 tick h
state-top (Note powered) marked level tick t h = cell_value _ 1 tick h
state-top RedstoneBlock marked level tick t h = omega arith
state-top (Wire n e s w power) true level tick t h = cell_value 0 0 tick h
state-top (Wire n e s w power) false level tick t h = omega arith
state-top _ marked level tick t h = absurd (true≢false (sym t))

delay-range : (wooden : Bool) → (cond {A = ℕ} wooden 10 15 ≡ 10) ⊎ (cond {A = ℕ} wooden 10 15 ≡ 15)
delay-range true = inl refl
delay-range false = inr refl

if_some : (o : Option ℕ) → ((n : ℕ) → o ≡ Some n → n ≤ 15) → IfSome o (λ n. n ≤ 15)
if_some None h = tt
if_some (Some n) h = h n refl

far-range : (direct far : Option ℕ) (solid : Bool) → ((n : ℕ) → far ≡ Some n → n ≤ 15) → IfSome (unless_direct direct (if_solid solid far)) (λ n. n ≤ 15)
far-range (Some d) far solid h = tt
far-range None far true h = if_some far h
far-range None far false h = tt

kind-range : (b : Plan) → IsWhole b → (p : Pos) (k : Block) → is_listed k ≡ true → IsKindInRange (kind_of b p k)
kind-range b whole p (Button name face facing powered) l = delay-range (nat_lt name first_wooden_button)
kind-range b whole p (Repeater delay facing powered) l =
    let t = and_parts (nat_lt 0 delay) (nat_lt delay 5) (and_parts (nat_lt 0 delay && nat_lt delay 5) (is_horizontal facing) l).0 in
    (omega (arith, ltb-true 0 delay t.0), omega (arith, ltb-true delay 5 t.1))
kind-range b whole p (Comparator facing subtract) l = (
  if_some (direct_at b p facing) (strength-le b whole (beside facing p)),
  far-range (direct_at b p facing) (strength_at b (beside facing (beside facing p))) (solid_at b (beside facing p)) (strength-le b whole (beside facing (beside facing p))),
)
kind-range b whole p (Lever face facing powered) l = tt
kind-range b whole p (Plate name powered) l = tt
kind-range b whole p (Weighted name power) l = tt
kind-range b whole p (Torch lit) l = tt
kind-range b whole p (WallTorch facing lit) l = tt
kind-range b whole p (Lamp lit) l = tt
kind-range b whole p (Trapdoor facing top powered) l = tt
kind-range b whole p (Note powered) l = tt
kind-range b whole p RedstoneBlock l = tt
kind-range b whole p _ l = tt

-- ---- pending ticks

-- the tick that waits at a place may wait there
waiting-may : (b : Plan) (p : Pos) (ticks : List Pending) → list_all (may_wait b) ticks ≡ true → (tick : Pending) → waiting_at ticks p ≡ Some tick →
    (is_ticking (block_at b p) ≡ true) × (is_timely tick ≡ true)
waiting-may b p [] all tick h = absurd (cc)
waiting-may b p (one ∷ ticks) all tick h = elim (cases_Bool (same_place one.pos p)) [
  | inl e ↦ (let f : ◌≡◌ {A = Option Pending} (Some one) (Some tick) = rw e at h in
      let same : tick ≡ one = some-is one tick f in
      let may = and_parts (is_ticking (block_at b one.pos)) (is_timely one) here in
      (subst (λ (q : Pos). is_ticking (block_at b q) ≡ true) (place_one one.pos p e) may.0, ap is_timely same ∙ may.1))
  | inr e ↦ waiting-may b p ticks (and_parts (may_wait b one) (list_all (may_wait b) ticks) all).1 tick (rw e at h)
]
  where
    here : may_wait b one ≡ true
    here = (and_parts (may_wait b one) (list_all (may_wait b) ticks) all).0

kind-waits : (b : Plan) (p : Pos) (k : Block) → is_ticking k ≡ true → can_wait (kind_of b p k) ≡ true
kind-waits b p (Torch lit) h = refl
kind-waits b p (WallTorch facing lit) h = refl
kind-waits b p (Repeater delay facing powered) h = refl
kind-waits b p (Comparator facing subtract) h = refl
kind-waits b p (Lamp lit) h = refl
kind-waits b p (Button name face facing powered) h = refl
kind-waits b p _ h = absurd (true≢false (sym h))

-- what a node says of its pending tick
record IsWaitFit (can : Bool) (due priority : ℕ) : Type 0 where
  due_most : due ≤ 15
  priority_most : priority ≤ 3
  waiting : due ≢ 0 → can ≡ true
  idle : due ≡ 0 → priority ≡ 0

none-fit : (can : Bool) → IsWaitFit can 0 0
none-fit can = record { due_most = omega arith; priority_most = omega arith; waiting = λ h. absurd (h refl); idle = λ e. refl }

tick-fit : (can : Bool) (tick : Pending) → can ≡ true → is_timely tick ≡ true → IsWaitFit can tick.due tick.priority
tick-fit can tick c t =
    let both = and_parts (nat_lt 0 tick.due && nat_le tick.due 15) (nat_le tick.priority 3) t in
    let dues = and_parts (nat_lt 0 tick.due) (nat_le tick.due 15) both.0 in
    record {
      due_most = leb-true tick.due 15 dues.1;
      priority_most = leb-true tick.priority 3 both.1;
      waiting = λ h. c;
      idle = λ e. absurd (let above : 0 < tick.due = ltb-true 0 tick.due dues.0 in omega (arith, e, above));
    }

stored-fit : (can : Bool) (role : Option _) (value : ℕ) (tick : Option Pending) → ((one : Pending) → tick ≡ Some one → (can ≡ true) × (is_timely one ≡ true)) →
    IsWaitFit can (stored_of role value tick).due (stored_of role value tick).priority
stored-fit can None value tick h = none-fit can
stored-fit can (Some component) value None h = none-fit can
stored-fit can (Some component) value (Some tick) h = let t = h tick refl in tick-fit can tick t.0 t.1

wait-fit : (b : Plan) → IsWhole b → (marks : List Pos) (p : Pos) → IsWaitFit (can_wait (kind_of b p (block_at b p))) (stored b marks p).due (stored b marks p).priority
unfolding stored
wait-fit b whole marks p = stored-fit (can_wait (kind_of b p (block_at b p))) (role_at b marks p) (stored_value (block_at b p) (entry b b.levels 0 p)) (waiting_at b.pending p)
    (λ one h. let t = waiting-may b p b.pending whole.waiting one h in (kind-waits b p (block_at b p) t.0, t.1))

-- ---- all nodes

state-range : (b : Plan) → IsWhole b → (marks : List Pos) (p : Pos) → has_node b marks p ≡ true →
    state_of (block_at b p) (entry b b.levels 0 p) ≤ top_of (node_role (kind_of b p (block_at b p)))
unfolding has_node role_at stored
state-range b whole marks p h =
    rw (kind-role b p (block_at b p) (is_marked marks p) h)
    (state-top (block_at b p) (is_marked marks p) (entry b b.levels 0 p) (waiting_at b.pending p) h ((world_bounded b whole marks).begin p))

linked-sound : (b : Plan) → IsWhole b → (marks : List Pos) (p : Pos) → has_node b marks p ≡ true → IsSoundNode (raw b marks) (linked_node b marks (node_places b marks) p)
unfolding bare_node
linked-sound b whole marks p h = record {
  state = state-range b whole marks p h;
  kind = kind-range b whole p (block_at b p) (whole.listed p);
  due = fit.due_most;
  priority = fit.priority_most;
  waiting = fit.waiting;
  idle = fit.idle;
  links = λ index link e. links-good b marks p link (get-among (links_of b (node_places b marks) p) index link e);
}
  where
    fit : IsWaitFit (can_wait (kind_of b p (block_at b p))) (stored b marks p).due (stored b marks p).priority
    fit = wait-fit b whole marks p

places_of-nodes : (f : Pos → Node) → ((p : Pos) → (f p).pos ≡ p) → ((p : Pos) → (f p).also ≡ []) → (ps : List Pos) → places_of (map (λ p. Some (f p)) ps) ≡ ps
places_of-nodes f at alone [] = refl
places_of-nodes f at alone (p ∷ ps) = rw (at p, alone p) (ap (λ (qs : List Pos). p ∷ qs) (places_of-nodes f at alone ps))

places_of-raw : (b : Plan) (marks : List Pos) → places_of (raw b marks) ≡ node_places b marks
unfolding raw bare_node
places_of-raw b marks = places_of-nodes (linked_node b marks (node_places b marks)) (λ p. refl) (λ p. refl) (node_places b marks)

pub raw_sound : (b : Plan) → IsWhole b → (marks : List Pos) → IsSound (raw b marks)
raw_sound b whole marks = record {
  each = λ key node h.
      let r : At_place (linked_node b marks (node_places b marks)) (node_places b marks) key node = node-here b marks key node h in
      subst (IsSoundNode (raw b marks)) (sym r.stands) (linked-sound b whole marks r.place (node_place-has b marks r.place r.is_in));
  apart = subst (EachBefore (λ p q. p ≢ q)) (sym (places_of-raw b marks)) (nodes-once b marks);
}
