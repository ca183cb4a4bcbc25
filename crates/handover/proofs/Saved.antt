-- What is given back is saved.
use Rattle.std.proofs.Common.{◌≡◌, ◌≢◌, ℕ, zero, suc, ◌-◌, ◌<◌, ◌≤◌, Bool, true, false, not, cond, List, [], ◌∷◌, length, get_or, map, Option, Some, None, refl, sym, ap, ap₂, ◌∙◌, subst, arith, inl, inr}
use Rattle.std.specs.Prelude.{nat_lt, ◌==◌, is_some, option_map}
use Rattle.std.specs.List.{filter_map, cons_option}
use Rattle.std.proofs.lemmas.Bool.{cases_Bool, cases_eq, eqb-true, false≢true}
use Rattle.std.proofs.lemmas.List.{get_or-map}
use Rattle.block_table.specs.declared.Block.{Block}
use Rattle.block_table.specs.declared.Block.TheVariants.{Air, Wire as WireBlock, Torch as TorchBlock, WallTorch, Repeater as RepeaterBlock, Comparator as ComparatorBlock, Lever as LeverBlock, Button as ButtonBlock, Plate as PlateBlock, Lamp as LampBlock, Trapdoor as TrapdoorBlock, Weighted as WeightedBlock, Note as NoteBlock}
use Rattle.circuit.specs.declared.Cell.{Cell}
use Rattle.circuit.specs.declared.Component.{Component}
use Rattle.circuit.specs.declared.Component.TheVariants.{Wire as WirePart}
use Rattle.circuit.specs.declared.Pos.{Pos}
use Rattle.circuit.specs.Bounds.{BoundedAt, Bounded}
use Rattle.circuit.specs.Circuit.{State, Among}
use Rattle.circuit.specs.Component.{top}
use Rattle.circuit.specs.Joining.{remaining}
use Rattle.circuit.proofs.Bounded.{bounded_is_invariant}
use Rattle.circuit.proofs.Kept.{kept_by_plays}
use Rattle.build.specs.declared.Pending.{Pending}
use Rattle.build.specs.Place.{same_place}
use Rattle.build.specs.SamePlace.{place_itself, place_one}
use Rattle.build.specs.Places.{inside, cell_below, place-cell, length-places, places-at, entry-inside, entry-outside, entry-same_box, in_box-not_outside}
use Rattle.build.specs.Plan.{Plan, IsWhole, in_box, cell_of, places, entry, block_at, strength_of, strength_at}
use Rattle.build.specs.Roles.{role_of, role_at, on_if, stored_value, waiting_at, cell_with, stored_of, stored}
use Rattle.power_rules.specs.StandsFor.{unset}
use Rattle.cell_queue.specs.Held.{wait_of}
use Rattle.cell_queue.specs.declared.cells.Wait.{Wait}
use Rattle.graph.specs.declared.Kind.{Kind}
use Rattle.graph.specs.declared.Kind.TheVariants.{Wire as WireNode, Constant}
use Rattle.graph.specs.BoundSteps.{graph_is_bounded}
use Rattle.graph.specs.Graph.{Node, Nodes, node_at}
use Rattle.graph.specs.GraphCircuit.{role_of as node_role_of, role_at as node_role_at, graph_circuit}
use Rattle.graph.specs.Sound.{IsSound, can_wait}
use Rattle.graph.proofs.ListedSteps.{test_of_keys}
use Rattle.compiler.specs.declared.Keep.TheVariants.{All}
use Rattle.compiler.specs.Compiled.{Compiled}
use Rattle.compiler.specs.MayWait.{MayWait}
use Rattle.compiler.specs.PlaceOrder.{IsPlaceOf}
use Rattle.compiler.specs.SavedGraph.{IsSaved}
use Rattle.compiler.proofs.BuildPlaces.{compiled_blocks}
use Rattle.compiler.proofs.CompiledLaws.{compiled_sound}
use Rattle.compiler.proofs.PlacedLaws.{compiled_in_places}
use Rattle.compiler.proofs.SavedLaws.{role-marked, stored-marked}
use Rattle.compiler.proofs.Waits.{stored_waits, graph_waits}
use Rattle.handover.specs.declared.held.Held.{Held}
use Rattle.handover.specs.Ended.{IsPlayed}
use Rattle.handover.specs.GivenBack.{has_state, held_under, held_at, given_block, given_level, waiting_for, given_tick, given_back}
use Rattle.handover.proofs.Keepers.{keeper_is, keeper_none}

-- ---- one block

pub unset-given : (held : Option Held) (k : Block) → unset (given_block held k) ≡ unset k
unset-given None k = refl
unset-given (Some held) (TorchBlock lit) = refl
unset-given (Some held) _ = refl

strength-given : (held : Option Held) (k : Block) (level : ℕ) → strength_of (given_block held k) (given_level held k level) ≡ strength_of k level
strength-given None (ComparatorBlock facing subtract) level = refl
strength-given None _ level = refl
strength-given (Some held) (ComparatorBlock facing subtract) level = refl
strength-given (Some held) _ level = refl

pub role-given : (marked : Bool) (held : Option Held) (k : Block) → role_of marked (given_block held k) ≡ role_of marked k
role-given marked None k = refl
role-given marked (Some held) (TorchBlock lit) = refl
role-given marked (Some held) _ = refl

level-kept : (k : Block) (level : ℕ) → given_level None k level ≡ level
level-kept (ComparatorBlock facing subtract) level = refl
level-kept _ level = refl

-- a value in the range of the component, if there is one
abbrev Within : Option Component → ℕ → Type 0
Within None value = ⊥
Within (Some component) value = value ≤ top component

on_off : (value : ℕ) → value ≤ 1 → on_if (nat_lt 0 value) ≡ value
on_off value h = elim (cases_eq value 0) [
  | inl e ↦ subst (λ n. on_if (nat_lt 0 n) ≡ n) (sym e) refl
  | inr n ↦ (let e : value ≡ 1 = omega (arith, n) in subst (λ m. on_if (nat_lt 0 m) ≡ m) (sym e) refl)
]

-- the value that was given is stored
value-stored : (k : Block) (held : Held) (level : ℕ) → Within (role_of false k) held.value → stored_value (given_block (Some held) k) (given_level (Some held) k level) ≡ held.value
value-stored (LeverBlock face facing powered) held level h = on_off held.value h
value-stored (ButtonBlock name face facing powered) held level h = on_off held.value h
value-stored (PlateBlock name powered) held level h = on_off held.value h
value-stored (WeightedBlock name power) held level h = refl
value-stored (TorchBlock lit) held level h = on_off held.value h
value-stored (WallTorch facing lit) held level h = on_off held.value h
value-stored (RepeaterBlock delay facing powered) held level h = on_off held.value h
value-stored (ComparatorBlock facing subtract) held level h = refl
value-stored (LampBlock lit) held level h = on_off held.value h
value-stored (TrapdoorBlock facing top powered) held level h = on_off held.value h
value-stored (NoteBlock powered) held level h = on_off held.value h
value-stored _ held level h = absurd h

-- an unmarked block is no wire that is shown
no_wire : (k : Block) → role_of false k ≡ Some WirePart → ⊥
no_wire (TorchBlock lit) h = cc
no_wire _ h = cc

marked_part : (k : Block) (component : Component) → role_of false k ≡ Some component → role_of true k ≡ Some component
marked_part (TorchBlock lit) component h = h
marked_part (WireBlock north east south west power) component h = absurd (cc)
marked_part _ component h = h

state_of_kind : (kind : Kind) → kind ≢ Constant → (node_role_of kind ≡ Some WirePart → ⊥) → has_state kind ≡ true
state_of_kind Constant moves n = absurd (moves refl)
state_of_kind WireNode moves n = absurd (n refl)
state_of_kind _ moves n = refl

-- ---- one tick

tick-cell : (p : Pos) (time : ℕ) (cell : Cell) → (cell.due ≡ 0 → cell.priority ≡ 0) → cell_with cell.value (waiting_for p (wait_of time cell)) ≡ remaining time cell
tick-cell p time cell idle = by_test (cell.due == 0) (λ t. eqb-true cell.due 0 t)
  where
    by_test : (zero_due : Bool) → (zero_due ≡ true → cell.due ≡ 0) →
        cell_with cell.value (waiting_for p (cond (not zero_due) (Some (record { left = cell.due - time; priority = cell.priority })) None)) ≡ remaining time cell
    by_test false z = refl
    by_test true z =
        let none : 0 ≡ cell.due - time = omega (arith, z refl) in
        λ i. record { value = cell.value; due = none i; priority = sym (idle (z refl)) i }

calm-cell : (value : ℕ) (tick : Option Pending) → (cell_with value tick).due ≡ 0 → (cell_with value tick).priority ≡ 0 → cell_with value None ≡ cell_with value tick
calm-cell value None due priority = refl
calm-cell value (Some tick) due priority = λ i. record { value = value; due = sym due i; priority = sym priority i }

-- where each place gives its own tick, that of a place is found
module _ (f : Pos → Option Pending) (own : (q : Pos) (tick : Pending) → f q ≡ Some tick → tick.pos ≡ q) (p : Pos) where
  found_none : f p ≡ None → (ps : List Pos) → waiting_at (filter_map f ps) p ≡ None
  found_none none [] = refl
  found_none none (q ∷ ps) = by_tick (f q) refl (found_none none ps)
    where
      by_tick : (tick : Option Pending) → f q ≡ tick → waiting_at (filter_map f ps) p ≡ None → waiting_at (cons_option tick (filter_map f ps)) p ≡ None
      by_tick None e rest = rest
      by_tick (Some tick) e rest = elim (cases_Bool (same_place tick.pos p)) [
        | inl t ↦ absurd (let clash : ◌≡◌ {A = Option Pending} None (Some tick) = sym none ∙ ap f (sym (place_one tick.pos p t) ∙ own q tick e) ∙ e in cc)
        | inr t ↦ rw t rest
      ]

  found_own : (ps : List Pos) → Among ps p → waiting_at (filter_map f ps) p ≡ f p
  found_own [] a = absurd a
  found_own (q ∷ ps) a = by_tick (f q) refl (λ b. found_own ps b)
    where
      by_tick : (tick : Option Pending) → f q ≡ tick → (Among ps p → waiting_at (filter_map f ps) p ≡ f p) → waiting_at (cons_option tick (filter_map f ps)) p ≡ f p
      by_tick None e rest = elim a [
        | inl same ↦ (let none : f p ≡ None = ap f same ∙ e in found_none none ps ∙ sym none)
        | inr b ↦ rest b
      ]
      by_tick (Some tick) e rest = elim (cases_Bool (same_place tick.pos p)) [
        | inl t ↦ rw t (sym (ap f (sym (sym (own q tick e) ∙ place_one tick.pos p t)) ∙ e))
        | inr t ↦ rw t (rest (elim a [
          | inl same ↦ absurd (false≢true (sym t ∙ ap (λ (r : Pos). same_place r p) (own q tick e ∙ sym same) ∙ place_itself p))
          | inr b ↦ b
        ]))
      ]

-- ---- one place

among-get : (ps : List Pos) (i : ℕ) (d : Pos) → i < length ps → Among ps (get_or ps i d)
among-get [] i d h = absurd (omega arith)
among-get (p ∷ ps) zero d h = inl refl
among-get (p ∷ ps) (suc i) d h = inr (among-get ps i d (omega arith))

among-places : (b : Plan) (p : Pos) → in_box b p ≡ true → Among (places b) p
among-places b p h =
    let at = inside b p h in
    let low = cell_below b p at in
    subst (Among (places b)) (places-at b (cell_of b p) p low ∙ place-cell b p at) (among-get (places b) (cell_of b p) p (omega (arith, low, length-places b)))

entry-made : {A : Type 0} (b : Plan) (f : Pos → A) (d : A) (p : Pos) → in_box b p ≡ true → entry b (map f (places b)) d p ≡ f p
entry-made b f d p h =
    let at = inside b p h in
    let low = cell_below b p at in
    entry-inside b (map f (places b)) d p h
    ∙ get_or-map f (places b) (cell_of b p) p d (omega (arith, low, length-places b))
    ∙ ap f (places-at b (cell_of b p) p low ∙ place-cell b p at)

module _ (b : Plan) (g : Nodes) (s : State ℕ) where
  block-inside : (p : Pos) → in_box b p ≡ true → block_at (given_back b g s) p ≡ given_block (held_at g s p) (block_at b p)
  unfolding given_back
  block-inside p h =
      entry-same_box b (given_back b g s) (given_back b g s).blocks Air p refl refl refl
      ∙ entry-made b (λ (q : Pos). given_block (held_at g s q) (block_at b q)) Air p h

  block-outside : (p : Pos) → in_box b p ≡ false → block_at (given_back b g s) p ≡ block_at b p
  unfolding given_back
  block-outside p h =
      entry-same_box b (given_back b g s) (given_back b g s).blocks Air p refl refl refl
      ∙ entry-outside b (given_back b g s).blocks Air p h ∙ sym (entry-outside b b.blocks Air p h)

  level-inside : (p : Pos) → in_box b p ≡ true → entry (given_back b g s) (given_back b g s).levels 0 p ≡ given_level (held_at g s p) (block_at b p) (entry b b.levels 0 p)
  unfolding given_back
  level-inside p h =
      entry-same_box b (given_back b g s) (given_back b g s).levels 0 p refl refl refl
      ∙ entry-made b (λ (q : Pos). given_level (held_at g s q) (block_at b q) (entry b b.levels 0 q)) 0 p h

  level-outside : (p : Pos) → in_box b p ≡ false → entry (given_back b g s) (given_back b g s).levels 0 p ≡ entry b b.levels 0 p
  unfolding given_back
  level-outside p h =
      entry-same_box b (given_back b g s) (given_back b g s).levels 0 p refl refl refl
      ∙ entry-outside b (given_back b g s).levels 0 p h ∙ sym (entry-outside b b.levels 0 p h)

  given_own : (q : Pos) (tick : Pending) → given_tick q (held_at g s q) ≡ Some tick → tick.pos ≡ q
  given_own q tick e = by_held (held_at g s q) e
    where
      by_wait : (wait : Option Wait) → waiting_for q wait ≡ Some tick → tick.pos ≡ q
      by_wait None k = absurd (cc)
      by_wait (Some wait) k = let same : ◌≡◌ {A = Pending} (record { pos = q; due = wait.left; priority = wait.priority }) tick = cc in ap (λ (t : Pending). t.pos) (sym same)

      by_held : (held : Option Held) → given_tick q held ≡ Some tick → tick.pos ≡ q
      by_held None k = absurd (cc)
      by_held (Some held) k = by_wait held.wait k

  tick-inside : (p : Pos) → in_box b p ≡ true → waiting_at (given_back b g s).pending p ≡ given_tick p (held_at g s p)
  unfolding given_back
  tick-inside p h = found_own (λ (q : Pos). given_tick q (held_at g s q)) given_own p (places b) (among-places b p h)

  saved_blocks : (p : Pos) → unset (block_at (given_back b g s) p) ≡ unset (block_at b p)
  saved_blocks p = elim (cases_Bool (in_box b p)) [
    | inl h ↦ ap unset (block-inside p h) ∙ unset-given (held_at g s p) (block_at b p)
    | inr h ↦ ap unset (block-outside p h)
  ]

  saved_strengths : (p : Pos) → strength_at (given_back b g s) p ≡ strength_at b p
  saved_strengths p = elim (cases_Bool (in_box b p)) [
    | inl h ↦ ap₂ strength_of (block-inside p h) (level-inside p h) ∙ strength-given (held_at g s p) (block_at b p) (entry b b.levels 0 p)
    | inr h ↦ ap₂ strength_of (block-outside p h) (level-outside p h)
  ]

  -- what is stored at a place of the box
  stored-inside : (p : Pos) (held : Option Held) (component : Component) → in_box b p ≡ true → held_at g s p ≡ held → role_of false (block_at b p) ≡ Some component →
      stored (given_back b g s) [] p ≡ cell_with (stored_value (given_block held (block_at b p)) (given_level held (block_at b p) (entry b b.levels 0 p))) (given_tick p held)
  unfolding stored role_at
  stored-inside p held component h is there = λ i. stored_of (role i) (stored_value (block i) (level i)) (tick i)
    where
      block : block_at (given_back b g s) p ≡ given_block held (block_at b p)
      block = block-inside p h ∙ ap (λ one. given_block one (block_at b p)) is

      level : entry (given_back b g s) (given_back b g s).levels 0 p ≡ given_level held (block_at b p) (entry b b.levels 0 p)
      level = level-inside p h ∙ ap (λ one. given_level one (block_at b p) (entry b b.levels 0 p)) is

      tick : waiting_at (given_back b g s).pending p ≡ given_tick p held
      tick = tick-inside p h ∙ ap (given_tick p) is

      role : role_of false (block_at (given_back b g s) p) ≡ Some component
      role = ap (role_of false) block ∙ role-given false held (block_at b p) ∙ there

  stored-before : (p : Pos) (component : Component) → role_of false (block_at b p) ≡ Some component → stored b [] p ≡ cell_with (stored_value (block_at b p) (entry b b.levels 0 p)) (waiting_at b.pending p)
  unfolding stored role_at
  stored-before p component there = ap (λ role. stored_of role (stored_value (block_at b p) (entry b b.levels 0 p)) (waiting_at b.pending p)) there

part-inside : (b : Plan) (p : Pos) (component : Component) → role_of false (block_at b p) ≡ Some component → in_box b p ≡ true
part-inside b p component there = in_box-not_outside b b.blocks Air (λ k. is_some (role_of false k)) p refl (ap is_some there)

unmarked : (b : Plan) (p : Pos) (component : Component) → role_at b [] p ≡ Some component → role_of false (block_at b p) ≡ Some component
unfolding role_at
unmarked b p component there = there

-- ---- the law

pub played_bounded : (g : Nodes) → IsSound g → (s : State ℕ) → IsPlayed g s → Bounded (graph_circuit g) s
played_bounded g sound s played = kept_by_plays (bounded_is_invariant (graph_circuit g) test_of_keys (graph_is_bounded g sound)) played.plays

pub played_waits : (g : Nodes) → IsSound g → (s : State ℕ) → IsPlayed g s → (key : ℕ) (node : Node) → node_at g key ≡ Some node → MayWait (can_wait node.kind) (s.cells key).due (s.cells key).priority
played_waits g sound s played key node there = graph_waits g sound played.acts played.order played.views s played.plays key node there

pub given_saved : (b : Plan) → IsWhole b → (marks : List Pos) (g : Nodes) → Compiled b marks All g → (s : State ℕ) → IsPlayed g s → IsSaved b g s (given_back b g s)
unfolding given_back
given_saved b whole marks g c s played = record {
  width = refl;
  height = refl;
  depth = refl;
  blocks = saved_blocks b g s;
  strengths = saved_strengths b g s;
  cells = λ p component there key sp. cells p component (unmarked b p component there) key sp;
  others = λ p component there none. others p component there (unmarked b p component there) none;
}
  where
    sound : IsSound g
    sound = compiled_sound b whole marks All g c

    cells : (p : Pos) (component : Component) → role_of false (block_at b p) ≡ Some component → (key : ℕ) → IsPlaceOf g key p → stored (given_back b g s) [] p ≡ remaining s.time (s.cells key)
    cells p component there key sp =
        stored-inside b g s p (Some (held_under s key)) component (part-inside b p component there) kept there
        ∙ ap (λ value. cell_with value (waiting_for p (wait_of s.time (s.cells key)))) (value-stored (block_at b p) (held_under s key) (entry b b.levels 0 p) (subst (λ role. Within role (s.cells key).value) (sym there) below))
        ∙ tick-cell p s.time (s.cells key) (played_waits g sound s played key sp.node sp.there).idle
      where
        role : node_role_of sp.node.kind ≡ Some component
        role = sym (compiled_blocks b marks All g c key p sp) ∙ marked_part (block_at b p) component there

        state : has_state sp.node.kind ≡ true
        state = state_of_kind sp.node.kind sp.moves (λ wire. no_wire (block_at b p) (there ∙ sym role ∙ wire))

        kept : held_at g s p ≡ Some (held_under s key)
        kept = ap (option_map (held_under s)) (keeper_is g sound p key (record { node = sp.node; there = sp.there; state = state; stands = sp.stands }))

        below : (s.cells key).value ≤ top component
        below = subst (λ part. BoundedAt part (s.cells key)) (ap node_role_at sp.there ∙ role) ((played_bounded g sound s played).each key)

    others : (p : Pos) (component : Component) → role_at b [] p ≡ Some component → role_of false (block_at b p) ≡ Some component → ((key : ℕ) → IsPlaceOf g key p → ⊥) → stored (given_back b g s) [] p ≡ stored b [] p
    others p component unmarked_there there none =
        stored-inside b g s p None component (part-inside b p component there) (ap (option_map (held_under s)) (keeper_none g p none)) there
        ∙ ap (λ level. cell_with (stored_value (block_at b p) level) None) (level-kept (block_at b p) (entry b b.levels 0 p))
        ∙ calm-cell (stored_value (block_at b p) (entry b b.levels 0 p)) (waiting_at b.pending p) (ap (λ (cell : Cell). cell.due) (sym before) ∙ due) (ap (λ (cell : Cell). cell.priority) (sym before) ∙ (stored_waits b whole [] p).idle due)
        ∙ sym before
      where
        role : role_at b marks p ≡ role_at b [] p
        role = role-marked b marks p component unmarked_there

        due : (stored b [] p).due ≡ 0
        due =
            let end = (compiled_in_places b whole marks g c).plays played.acts played.order played.views s played.plays in
            ap (λ (cell : Cell). cell.due) (sym (stored-marked b marks p role)) ∙ end.2.idle p component (role ∙ unmarked_there) none

        before : stored b [] p ≡ cell_with (stored_value (block_at b p) (entry b b.levels 0 p)) (waiting_at b.pending p)
        before = stored-before b g s p component there
