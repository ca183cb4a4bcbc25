-- What is held by the cells can be stored there, and its ticks may wait there.
use Rattle.std.proofs.Common.{◌≡◌, ℕ, ◌-◌, ◌≤◌, Bool, true, false, not, cond, List, Option, Some, None, refl, sym, ap, ◌∙◌, subst, arith, inl, inr}
use Rattle.std.specs.Prelude.{◌==◌, ◌&&◌, nat_lt, nat_le, option_map}
use Rattle.std.proofs.lemmas.Bool.{cases_lt, and_from, lt-ltb, le-leb, eqb-false, false≢true}
use Rattle.std.proofs.lemmas.List.{get_or_past}
use Rattle.block_table.specs.declared.Block.{Block}
use Rattle.block_table.specs.declared.Block.TheVariants.{Torch as TorchBlock}
use Rattle.circuit.specs.declared.Component.{Component}
use Rattle.circuit.specs.declared.Component.TheVariants.{Weighted, Comparator, Wire}
use Rattle.circuit.specs.declared.Pos.{Pos}
use Rattle.circuit.specs.Bounds.{BoundedAt}
use Rattle.circuit.specs.Circuit.{Circuit, State}
use Rattle.circuit.specs.Component.{top}
use Rattle.build.specs.declared.Pending.{Pending}
use Rattle.build.specs.Plan.{Plan, volume, block_at, place_of, is_ticking, is_timely, may_wait}
use Rattle.graph.specs.declared.Kind.{Kind}
use Rattle.graph.specs.declared.Kind.TheVariants.{Wire as WireNode, Constant}
use Rattle.graph.specs.Graph.{Node, Nodes, node_at}
use Rattle.graph.specs.GraphCircuit.{role_of as node_role_of, role_at as node_role_at, graph_circuit}
use Rattle.graph.specs.Sound.{IsSound, can_wait}
use Rattle.compiler.specs.PlaceOrder.{HasComponent}
use Rattle.compiler.specs.MayWait.{MayWait}
use Rattle.compiler.proofs.Waits.{ticks_at, kind_ticks, block_ticks}
use Rattle.handover.specs.declared.held.Held.{Held}
use Rattle.handover.specs.Ended.{HasItsBlocks, IsPlayed}
use Rattle.handover.specs.GivenBack.{has_state, keeper, held_under, held_at, given_block, waiting_for, given_tick}
use Rattle.handover.specs.HeldByCell.{in_cell, IsSoon, IsTimely, AreTimely, AreHeld, IsSmall, AreSmall, with_levels_by, AreTicking}
use Rattle.handover.proofs.Keepers.{KeptBy, keeper_so, is_place_of}
use Rattle.handover.proofs.Parts.{block_by-there}
use Rattle.handover.proofs.Saved.{played_bounded, played_waits}

-- ---- values

top_most : (component : Component) → top component ≤ 15
top_most Weighted = omega arith
top_most (Comparator subtract) = omega arith
top_most Wire = omega arith
top_most _ = omega arith

no_constant : (kind : Kind) → has_state kind ≡ true → node_role_of kind ≡ None → ⊥
no_constant Constant h e = false≢true h
no_constant WireNode h e = false≢true h
no_constant _ h e = cc

has_part : (kind : Kind) → has_state kind ≡ true → (component : Component) × (node_role_of kind ≡ Some component)
has_part kind h = by_role (node_role_of kind) refl
  where
    by_role : (role : Option Component) → node_role_of kind ≡ role → (component : Component) × (node_role_of kind ≡ Some component)
    by_role None e = absurd (no_constant kind h e)
    by_role (Some component) e = (component, e)

-- a node with a state is a component where the same circuit is played
pub playing_part : (g m : Nodes) (key : ℕ) → graph_circuit m ≡ graph_circuit g → (node : Node) → node_at g key ≡ Some node → has_state node.kind ≡ true → HasComponent (graph_circuit m) key
playing_part g m key same node there state =
    let part = has_part node.kind state in
    record { component = part.0; there = ap (λ (C : Circuit ℕ). C.role key) same ∙ ap node_role_at there ∙ part.1 }

small_value : (g : Nodes) → IsSound g → (s : State ℕ) → IsPlayed g s → (p : Pos) (key : ℕ) → KeptBy g p key → (s.cells key).value ≤ 15
small_value g sound s played p key k = by_role (node_role_of k.node.kind) refl (subst (λ role. BoundedAt role (s.cells key)) (ap node_role_at k.there) ((played_bounded g sound s played).each key))
  where
    by_role : (role : Option Component) → node_role_of k.node.kind ≡ role → BoundedAt role (s.cells key) → (s.cells key).value ≤ 15
    by_role None e h = absurd (no_constant k.node.kind k.state e)
    by_role (Some component) e h = omega (arith, h, top_most component)

small_at : (g : Nodes) → IsSound g → (s : State ℕ) → IsPlayed g s → (p : Pos) → IsSmall (held_at g s p)
small_at g sound s played p = by_keeper (keeper g p) refl
  where
    by_keeper : (found : Option ℕ) → keeper g p ≡ found → IsSmall (option_map (held_under s) found)
    by_keeper None e = tt
    by_keeper (Some key) e = small_value g sound s played p key (keeper_so g p key e)

pub small_cells : (b : Plan) (g : Nodes) → IsSound g → (s : State ℕ) → IsPlayed g s → (held : List (Option Held)) → AreHeld b g s held → AreSmall held
small_cells b g sound s played held are cell = elim (cases_lt cell (volume b)) [
  | inl low ↦ subst IsSmall (sym (are.each cell low)) (small_at g sound s played (place_of b cell))
  | inr past ↦ subst IsSmall (sym (get_or_past held cell None (omega (arith, past, are.whole)))) tt
]

-- ---- ticks

ticking-given : (held : Option Held) (k : Block) → is_ticking (given_block held k) ≡ is_ticking k
ticking-given None k = refl
ticking-given (Some held) (TorchBlock lit) = refl
ticking-given (Some held) _ = refl

pub ticking_cells : (b : Plan) (g : Nodes) → IsSound g → HasItsBlocks b g → (s : State ℕ) → IsPlayed g s → (held : List (Option Held)) → AreHeld b g s held → AreTimely held → AreTicking b held
ticking_cells b g sound blocks s played held are timely cell low tick e =
    by_keeper (keeper g p) refl (ap (given_tick p) (sym is) ∙ e) (subst IsTimely is (timely cell))
  where
    p : Pos
    p = place_of b cell

    is : in_cell held cell ≡ held_at g s p
    is = are.each cell low

    timely_tick : (left priority : ℕ) → (1 ≤ left) × (left ≤ 15) → priority ≤ 3 → is_timely (record { pos = p; due = left; priority = priority }) ≡ true
    timely_tick left priority soon most =
        and_from (nat_lt 0 left && nat_le left 15) (nat_le priority 3)
        (and_from (nat_lt 0 left) (nat_le left 15) (lt-ltb 0 left (omega (arith, soon.0))) (le-leb left 15 soon.1)) (le-leb priority 3 most)

    ticks_there : (key : ℕ) (k : KeptBy g p key) → can_wait k.node.kind ≡ true → is_ticking (block_at (with_levels_by b held) p) ≡ true
    ticks_there key k can =
        ap is_ticking (block_by-there b (with_levels_by b held) held cell low refl refl refl refl)
        ∙ ticking-given (in_cell held cell) (block_at b p)
        ∙ block_ticks true (block_at b p) (ap ticks_at (blocks.blocks key p (is_place_of g p key k)) ∙ kind_ticks k.node.kind ∙ can)

    by_test : (key : ℕ) → KeptBy g p key → (zero_due : Bool) → ((s.cells key).due == 0) ≡ zero_due →
        waiting_for p (cond (not zero_due) (Some (record { left = (s.cells key).due - s.time; priority = (s.cells key).priority })) None) ≡ Some tick →
        IsSoon (cond (not zero_due) (Some (record { left = (s.cells key).due - s.time; priority = (s.cells key).priority })) None) → may_wait (with_levels_by b held) tick ≡ true
    by_test key k true z there soon = absurd (cc)
    by_test key k false z there soon =
        let waits : MayWait (can_wait k.node.kind) (s.cells key).due (s.cells key).priority = played_waits g sound s played key k.node k.there in
        let same : ◌≡◌ {A = Pending} (record { pos = p; due = (s.cells key).due - s.time; priority = (s.cells key).priority }) tick = cc in
        subst (λ (one : Pending). may_wait (with_levels_by b held) one ≡ true) same
        (and_from (is_ticking (block_at (with_levels_by b held) p)) (is_timely (record { pos = p; due = (s.cells key).due - s.time; priority = (s.cells key).priority }))
        (ticks_there key k (waits.waiting (eqb-false (s.cells key).due 0 z)))
        (timely_tick ((s.cells key).due - s.time) (s.cells key).priority soon waits.most))

    by_keeper : (found : Option ℕ) → keeper g p ≡ found → given_tick p (option_map (held_under s) found) ≡ Some tick → IsTimely (option_map (held_under s) found) → may_wait (with_levels_by b held) tick ≡ true
    by_keeper None k there soon = absurd (cc)
    by_keeper (Some key) k there soon = by_test key (keeper_so g p key k) ((s.cells key).due == 0) refl there soon
