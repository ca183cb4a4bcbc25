-- The raw graph and the world match by place.
use Rattle.std.proofs.Common.{◌≡◌, ℕ, ◌+◌, Bool, true, false, true≢false, List, map, Option, Some, None, refl, sym, ap, subst, ◌∙◌, arith}
use Rattle.block_table.specs.declared.Block.{Block}
use Rattle.block_table.specs.declared.Block.TheVariants.{Wire, Torch, WallTorch, Repeater, Comparator, Lever, Button, Plate, RedstoneBlock, Lamp, Trapdoor, Weighted, Note}
use Rattle.circuit.specs.declared.Pos.{Pos}
use Rattle.circuit.specs.declared.Cell.{Cell}
use Rattle.circuit.specs.declared.Component.{Component}
use Rattle.circuit.specs.Circuit.{State, outs, Each, Among}
use Rattle.circuit.specs.Bounds.{Bounded}
use Rattle.circuit.specs.Shows.{Refines, RefinesBy}
use Rattle.circuit.proofs.Keys.{among_filter}
use Rattle.circuit.proofs.Bounded.{bounded_is_invariant}
use Rattle.circuit.proofs.Matches.{Matches, Alike, matches_in_order, matches_refines, each_map}
use Rattle.build.specs.declared.Pending.{Pending}
use Rattle.build.specs.Plan.{Plan, IsWhole, entry, places, block_at}
use Rattle.build.specs.Marks.{is_marked}
use Rattle.build.specs.Roles.{role_of, role_at, base_of, base_at, first_at, stored_value, waiting_at, cell_with, stored_of, stored}
use Rattle.power_rules.specs.Bounded.{world_bounded}
use Rattle.power_rules.specs.World.{world_circuit}
use Rattle.power_rules.proofs.Listed.{world_listed}
use Rattle.power_rules.proofs.Joining.{test_of_places}
use Rattle.graph.proofs.ListedSteps.{test_of_keys}
use Rattle.graph.specs.Graph.{Node, Nodes, node_at, HasNode}
use Rattle.graph.specs.GraphCircuit.{role_of as node_role, role_at as node_role_at, base_of as node_base, begin_of, first_at as node_first_at, base_at as node_base_at, begin_at, place_at, readings_at, graph_circuit, Output, output_of, outputs_from}
use Rattle.graph.specs.RawNodes.{has_node, kind_of, state_of, bare_node, node_places}
use Rattle.input_search.specs.Raw.{stands_at, HoldAlike, number_in, linked_node, raw}
use Rattle.wiring.proofs.Lists.{among-filter}
use Rattle.input_search.proofs.RawLaws.{At_place, node-here, node-there, nodes-once, node-reads, linked-pos}
use Rattle.input_search.proofs.Shown.{taken, output-place, each-output, shown-alike}

-- ---- one block

pub kind-role : (b : Plan) (p : Pos) (k : Block) (marked : Bool) → taken marked k ≡ true → node_role (kind_of b p k) ≡ role_of marked k
kind-role b p (Lever face facing powered) marked h = refl
kind-role b p (Button name face facing powered) marked h = refl
kind-role b p (Plate name powered) marked h = refl
kind-role b p (Weighted name power) marked h = refl
kind-role b p (Torch lit) marked h = refl
kind-role b p (WallTorch facing lit) marked h = refl
kind-role b p (Repeater delay facing powered) marked h = refl
kind-role b p (Comparator facing subtract) marked h = refl
kind-role b p (Lamp lit) marked h = refl
kind-role b p (Trapdoor facing top powered) marked h = refl
kind-role b p (Note powered) marked h = refl
kind-role b p RedstoneBlock marked h = refl
kind-role b p (Wire n e s w power) true h = refl
kind-role b p (Wire n e s w power) false h = absurd (true≢false (sym h))
kind-role b p _ marked h = absurd (true≢false (sym h))

role-taken : (k : Block) (marked : Bool) (component : Component) → role_of marked k ≡ Some component → taken marked k ≡ true
role-taken (Lever face facing powered) marked component h = refl
role-taken (Button name face facing powered) marked component h = refl
role-taken (Plate name powered) marked component h = refl
role-taken (Weighted name power) marked component h = refl
role-taken (Torch lit) marked component h = refl
role-taken (WallTorch facing lit) marked component h = refl
role-taken (Repeater delay facing powered) marked component h = refl
role-taken (Comparator facing subtract) marked component h = refl
role-taken (Lamp lit) marked component h = refl
role-taken (Trapdoor facing top powered) marked component h = refl
role-taken (Note powered) marked component h = refl
role-taken RedstoneBlock marked component h = refl
role-taken (Wire n e s w power) true component h = refl
role-taken (Wire n e s w power) false component h = absurd (cc)
role-taken _ marked component h = absurd (cc)

kind-base : (b : Plan) (p : Pos) (k : Block) (level : ℕ) → node_base (node_role (kind_of b p k)) (state_of k level) ≡ base_of k
kind-base b p (Lever face facing powered) level = refl
kind-base b p (Button name face facing powered) level = refl
kind-base b p (Plate name powered) level = refl
kind-base b p (Weighted name power) level = refl
kind-base b p (Torch lit) level = refl
kind-base b p (WallTorch facing lit) level = refl
kind-base b p (Repeater delay facing powered) level = refl
kind-base b p (Comparator facing subtract) level = refl
kind-base b p (Lamp lit) level = refl
kind-base b p (Trapdoor facing top powered) level = refl
kind-base b p (Note powered) level = refl
kind-base b p RedstoneBlock level = refl
kind-base b p _ level = refl

cell-again : (value : ℕ) (tick : Option Pending) →
    ◌≡◌ {A = Cell} (record { value = value; due = (cell_with value tick).due; priority = (cell_with value tick).priority }) (cell_with value tick)
cell-again value None = refl
cell-again value (Some tick) = refl

kind-begin : (b : Plan) (p : Pos) (k : Block) (marked : Bool) (level : ℕ) (tick : Option Pending) → taken marked k ≡ true →
    begin_of (node_role (kind_of b p k)) (record { value = state_of k level; due = (stored_of (role_of marked k) (stored_value k level) tick).due; priority = (stored_of (role_of marked k) (stored_value k level) tick).priority })
    ≡ stored_of (role_of marked k) (stored_value k level) tick
kind-begin b p (Lever face facing powered) marked level tick h = cell-again _ tick
kind-begin b p (Button name face facing powered) marked level tick h = cell-again _ tick
kind-begin b p (Plate name powered) marked level tick h = cell-again _ tick
kind-begin b p (Weighted name power) marked level tick h = cell-again _ tick
kind-begin b p (Torch lit) marked level tick h = cell-again _ tick
kind-begin b p (WallTorch facing lit) marked level tick h = cell-again _ tick
kind-begin b p (Repeater delay facing powered) marked level tick h = cell-again _ tick
kind-begin b p (Comparator facing subtract) marked level tick h = cell-again _ tick
kind-begin b p (Lamp lit) marked level tick h = cell-again _ tick
kind-begin b p (Trapdoor facing top powered) marked level tick h = cell-again _ tick
kind-begin b p (Note powered) marked level tick h = cell-again _ tick
kind-begin b p RedstoneBlock marked level tick h = refl
kind-begin b p (Wire n e s w power) true level tick h = cell-again 0 tick
kind-begin b p (Wire n e s w power) false level tick h = absurd (true≢false (sym h))
kind-begin b p _ marked level tick h = absurd (true≢false (sym h))

-- ---- one place

linked-role : (b : Plan) (marks all : List Pos) (p : Pos) → has_node b marks p ≡ true → node_role_at (Some (linked_node b marks all p)) ≡ role_at b marks p
unfolding has_node bare_node role_at
linked-role b marks all p h = kind-role b p (block_at b p) (is_marked marks p) h

linked-first : (b : Plan) (marks all : List Pos) (p : Pos) → node_first_at (Some (linked_node b marks all p)) ≡ first_at b p
unfolding bare_node
linked-first b marks all p = refl

linked-base : (b : Plan) (marks all : List Pos) (p : Pos) → node_base_at (Some (linked_node b marks all p)) ≡ base_at b p
unfolding bare_node base_at
linked-base b marks all p = kind-base b p (block_at b p) (entry b b.levels 0 p)

linked-begin : (b : Plan) (marks all : List Pos) (p : Pos) → has_node b marks p ≡ true → begin_at (Some (linked_node b marks all p)) ≡ stored b marks p
unfolding has_node bare_node role_at stored
linked-begin b marks all p h = kind-begin b p (block_at b p) (is_marked marks p) (entry b b.levels 0 p) (waiting_at b.pending p) h

component-node : (b : Plan) (marks : List Pos) (p : Pos) (component : Component) → role_at b marks p ≡ Some component → has_node b marks p ≡ true
unfolding role_at has_node
component-node b marks p component h = role-taken (block_at b p) (is_marked marks p) component h

component-in : (b : Plan) (marks : List Pos) (p : Pos) (component : Component) → role_at b marks p ≡ Some component → Among (node_places b marks) p
unfolding node_places
component-in b marks p component h =
    among_filter (has_node b marks) (places b) p ((world_listed b marks).all p component h) (component-node b marks p component h)

pub node_place-has : (b : Plan) (marks : List Pos) (p : Pos) → Among (node_places b marks) p → has_node b marks p ≡ true
unfolding node_places
node_place-has b marks p h = (among-filter (has_node b marks) (places b) p h).1

-- ---- all places

module _ (b : Plan) (marks : List Pos) where
  abbrev g : Nodes
  g = raw b marks

  abbrev ps : List Pos
  ps = node_places b marks

  abbrev at : ℕ → Pos
  at k = place_at (node_at g k)

  -- the node of a place stands under the key
  pub record IsNode (k : ℕ) : Type 0 where
    pub place : Pos
    pub is_in : Among ps place
    pub there : node_at g k ≡ Some (linked_node b marks ps place)
    pub number : number_in ps place ≡ k

  node-lives : (k : ℕ) (node : Node) → node_at g k ≡ Some node → IsNode k
  node-lives k node h =
      let r : At_place (linked_node b marks ps) ps k node = node-here b marks k node h in
      record { place = r.place; is_in = r.is_in; there = h ∙ ap (λ (n : Node). Some n) r.stands; number = r.number (nodes-once b marks) }

  role-lives : (k : ℕ) (entry : Option Node) → node_at g k ≡ entry → (component : Component) → node_role_at entry ≡ Some component → IsNode k
  role-lives k None e component h = absurd (cc)
  role-lives k (Some node) e component h = node-lives k node e

  output-lives : (k : ℕ) (entry : Option Node) → node_at g k ≡ entry → (one : Output) → output_of k entry ≡ Some one → IsNode k
  output-lives k None e one h = absurd (cc)
  output-lives k (Some node) e one h = node-lives k node e

  at-place : (k : ℕ) (n : IsNode k) → at k ≡ n.place
  at-place k n = ap place_at n.there ∙ linked-pos b marks ps n.place

  has : (k : ℕ) (n : IsNode k) → has_node b marks n.place ≡ true
  has k n = node_place-has b marks n.place n.is_in

  apart : (j k : ℕ) → IsNode j → IsNode k → at j ≡ at k → j ≡ k
  apart j k m n e = sym m.number ∙ ap (number_in ps) (sym (at-place j m) ∙ e ∙ at-place k n) ∙ n.number

  covered : (p : Pos) (component : Component) → role_at b marks p ≡ Some component → (k : ℕ) × IsNode k × (at k ≡ p)
  covered p component h =
      let i : Among ps p = component-in b marks p component h in
      let n : IsNode (number_in ps p) = record { place = p; is_in = i; there = node-there b marks p i; number = refl } in
      (number_in ps p, n, at-place (number_in ps p) n)

  shown-lives : Each IsNode (map (λ (one : Output). one.key) (outputs_from 0 g))
  shown-lives = each_map (λ (one : Output). IsNode one.key) IsNode (λ (one : Output). one.key) (λ one n. n) (outputs_from 0 g)
      (each-output (λ (one : Output). IsNode one.key) 0 g g (λ key. ap (node_at g) (let z : key ≡ 0 + key = omega arith in z))
      (λ key one e. subst IsNode (sym (output-place key (node_at g key) one e).0) (output-lives key (node_at g key) refl one e)))

  pub raw_matches : IsWhole b → Matches (world_circuit b marks) (graph_circuit g) at IsNode (Bounded (world_circuit b marks))
  raw_matches whole = record {
    apart = apart;
    lives = λ k component h. role-lives k (node_at g k) refl component h;
    covers = covered;
    role = λ k n. ap node_role_at n.there ∙ linked-role b marks ps n.place (has k n) ∙ ap (role_at b marks) (sym (at-place k n));
    first = λ k n. ap node_first_at n.there ∙ linked-first b marks ps n.place ∙ ap (first_at b) (sym (at-place k n));
    base = λ k n. ap node_base_at n.there ∙ linked-base b marks ps n.place ∙ ap (base_at b) (sym (at-place k n));
    begin = λ k n. ap begin_at n.there ∙ linked-begin b marks ps n.place (has k n) ∙ ap (stored b marks) (sym (at-place k n));
    place = λ k n. refl;
    reads = λ s bounded given same k n.
        ap (readings_at given) n.there
        ∙ node-reads b whole marks s bounded given (λ key node h. same key (node-lives key node h) ∙ ap (λ (o : Option Node). outs (world_circuit b marks) s (place_at o)) h) k (linked_node b marks ps n.place) n.there
        ∙ ap (λ (o : Option Node). (world_circuit b marks).readings (outs (world_circuit b marks) s) (place_at o)) (sym n.there);
    shown = shown-alike b marks;
    shown_live = shown-lives;
  }

pub raw_refines : (b : Plan) → IsWhole b → (marks : List Pos) → Refines (world_circuit b marks) (graph_circuit (raw b marks))
raw_refines b whole marks =
    matches_refines (λ k. place_at (node_at (raw b marks) k)) (IsNode b marks) (Bounded (world_circuit b marks)) (raw_matches b marks whole)
    (bounded_is_invariant (world_circuit b marks) test_of_places (world_bounded b whole marks)) test_of_places test_of_keys

-- ---- with the order, and to the same last states

alike-holds : (b : Plan) (marks : List Pos) (nodes : State ℕ) (at_places : State Pos) →
    Alike (λ k. place_at (node_at (raw b marks) k)) (IsNode b marks) (Bounded (world_circuit b marks)) nodes at_places → HoldAlike (raw b marks) nodes at_places
alike-holds b marks nodes at_places a = record {
  time = a.time;
  cells = λ key node h. a.cells key (node-lives b marks key node h) ∙ ap (λ (o : Option Node). at_places.cells (place_at o)) h;
}

pub raw_in_order : (b : Plan) → IsWhole b → (marks : List Pos) → RefinesBy (world_circuit b marks) (graph_circuit (raw b marks)) (map (map (stands_at (raw b marks)))) (HoldAlike (raw b marks))
raw_in_order b whole marks = record {
  plays = λ acts order views last plays.
      let r = by_places.plays acts order views last plays in
      (r.0, r.1, alike-holds b marks last (r.0) r.2);
}
  where
    by_places : RefinesBy (world_circuit b marks) (graph_circuit (raw b marks)) (map (map (stands_at (raw b marks)))) (Alike (λ k. place_at (node_at (raw b marks) k)) (IsNode b marks) (Bounded (world_circuit b marks)))
    by_places =
        matches_in_order (λ k. place_at (node_at (raw b marks) k)) (IsNode b marks) (Bounded (world_circuit b marks)) (raw_matches b marks whole)
        (bounded_is_invariant (world_circuit b marks) test_of_places (world_bounded b whole marks)) test_of_places test_of_keys

pub component_has_node : (b : Plan) (marks : List Pos) (p : Pos) (component : Component) → role_at b marks p ≡ Some component → HasNode (raw b marks) (λ node. node.pos ≡ p)
component_has_node b marks p component h =
    let c = covered b marks p component h in
    record { key = c.0; node = linked_node b marks (node_places b marks) c.1.place; there = c.1.there; holds = linked-pos b marks (node_places b marks) c.1.place ∙ sym (at-place b marks c.0 c.1) ∙ c.2 }
