-- No node of a sound graph ever passes its bound.
use Rattle.std.specs.Prelude.{◌≡◌, ℕ, ◌-◌, ◌≤◌, max, Bool, true, false, Option, Some, None}
use Rattle.std.proofs.Common.{arith, refl, sym, ap, subst, ◌∙◌}
use Rattle.std.proofs.lemmas.Bool.{cond_both}
use Rattle.circuit.specs.declared.Component.{Component}
use Rattle.circuit.specs.declared.Component.TheVariants.{Comparator as ComparatorPart}
use Rattle.circuit.specs.declared.Click.{Click}
use Rattle.circuit.specs.declared.Readings.{Readings}
use Rattle.circuit.specs.declared.Cell.{Cell}
use Rattle.circuit.specs.Component.{clicked}
use Rattle.circuit.specs.Circuit.{State, outs, out_at, put, attended_at, fired_at, fired_in, with_value}
use Rattle.circuit.specs.Bounds.{Bounded}
use Rattle.circuit.proofs.Bounded.{outs_le, bounded_is_invariant}
use Rattle.circuit.proofs.Matches.{IsInvariant}
use Rattle.graph.specs.declared.Kind.{Kind}
use Rattle.graph.specs.declared.Kind.TheVariants.{Lever, Button, Plate, Weighted, Torch, Repeater, Comparator, Lamp, Trapdoor, Note, Wire, Constant}
use Rattle.graph.specs.declared.Group.TheVariants.{Side}
use Rattle.graph.specs.Graph.{Node, Nodes, node_at}
use Rattle.graph.specs.Readings.{reading}
use Rattle.graph.specs.GraphCircuit.{role_of, role_at, first_at, base_of, base_at, begin_of, begin_at, readings_at, graph_circuit}
use Rattle.graph.specs.Sound.{IsSound}
use Rattle.graph.specs.Steps.{fixed_out, fixed_at, fixed, bound_of, bound_at}
use Rattle.graph.proofs.BoundSteps.{graph_is_bounded}
use Rattle.graph.proofs.ListedSteps.{test_of_keys}
use Rattle.graph.proofs.Shares.{reading-more}

-- a value within what a comparator that subtracts never passes, where Constants give so much
abbrev pub WithinKind : (ℕ → ℕ) → Node → Kind → ℕ → Type 0
WithinKind given node (Comparator true direct far) value = value ≤ max node.state (15 - reading given Side node.links)
WithinKind given node (Comparator false direct far) value = Unit {0}
WithinKind given node Lever value = Unit {0}
WithinKind given node (Button delay) value = Unit {0}
WithinKind given node Plate value = Unit {0}
WithinKind given node Weighted value = Unit {0}
WithinKind given node Torch value = Unit {0}
WithinKind given node (Repeater delay) value = Unit {0}
WithinKind given node Lamp value = Unit {0}
WithinKind given node Trapdoor value = Unit {0}
WithinKind given node Note value = Unit {0}
WithinKind given node Wire value = Unit {0}
WithinKind given node Constant value = Unit {0}

abbrev pub WithinEntry : (ℕ → ℕ) → Option Node → Cell → Type 0
WithinEntry given None cell = Unit {0}
WithinEntry given (Some node) cell = WithinKind given node node.kind cell.value

-- No value of the state passes its top, and no comparator its bound.
pub record Within (g : Nodes) (s : State ℕ) : Type 0 where
  pub values : Bounded (graph_circuit g) s
  pub each : (key : ℕ) → WithinEntry (fixed g) (node_at g key) (s.cells key)

-- what Constants give is given in every state
fixed_le : (g : Nodes) (s : State ℕ) (key : ℕ) → fixed g key ≤ outs (graph_circuit g) s key
fixed_le g s key = by_entry (node_at g key) (s.cells key)
  where
    by_kind : (kind : Kind) (state : ℕ) (cell : Cell) → fixed_out kind state ≤ out_at (role_of kind) (base_of (role_of kind) state) cell
    by_kind Constant state cell = omega arith
    by_kind _ state cell = omega arith

    by_entry : (entry : Option Node) (cell : Cell) → fixed_at entry ≤ out_at (role_at entry) (base_at entry) cell
    by_entry None cell = omega arith
    by_entry (Some node) cell = by_kind node.kind node.state cell

attended_within : (given : ℕ → ℕ) (node : Node) (kind : Kind) (time : ℕ) (first : Bool) (reads : ℕ → Readings) (key : ℕ) (cell : Cell) → WithinKind given node kind cell.value →
    WithinKind given node kind (attended_at time (role_of kind) first reads key cell).value
attended_within given node (Comparator true direct far) time first reads key cell h = h
attended_within given node (Comparator false direct far) time first reads key cell h = tt
attended_within given node _ time first reads key cell h = tt

fired_within : (given : ℕ → ℕ) (node : Node) (kind : Kind) (time : ℕ) (first : Bool) (reads : ℕ → Readings) (key : ℕ) (cell : Cell) → (reads key).back ≤ 15 → reading given Side node.links ≤ (reads key).side →
    WithinKind given node kind (fired_at time (role_of kind) first reads key cell).value
fired_within given node (Comparator true direct far) time first reads key cell back side = omega arith
fired_within given node (Comparator false direct far) time first reads key cell back side = tt
fired_within given node _ time first reads key cell back side = tt

clicked_within : (given : ℕ → ℕ) (node : Node) (kind : Kind) (component : Component) (click : Click) (value result : ℕ) → role_of kind ≡ Some component → clicked component click value ≡ Some result →
    WithinKind given node kind result
clicked_within given node (Comparator true direct far) component click value result role e =
    let same : ComparatorPart true ≡ component = cc in
    let none : None ≡ Some result = ap (λ part. clicked part click value) same ∙ e in absurd (cc)
clicked_within given node (Comparator false direct far) component click value result role e = tt
clicked_within given node _ component click value result role e = tt

begin_within : (given : ℕ → ℕ) (node : Node) (kind : Kind) (due priority : ℕ) → WithinKind given node kind (begin_of (role_of kind) (record { value = node.state; due = due; priority = priority })).value
begin_within given node (Comparator true direct far) due priority = omega arith
begin_within given node (Comparator false direct far) due priority = tt
begin_within given node _ due priority = tt

pub within_is_invariant : (g : Nodes) → IsSound g → IsInvariant (graph_circuit g) (Within g)
within_is_invariant g sound = record {
  begins = record { values = bounds.begins; each = λ key. begins (node_at g key) };
  attends = λ s w. record { values = bounds.attends s w.values; each = λ key. attends s key (node_at g key) (w.each key) };
  fires = λ s key w. record {
    values = bounds.fires s key w.values;
    each = λ k. put_within s w k key (fired_in (graph_circuit g) s key) (fires s w.values key (node_at g key) refl);
  };
  clicks = λ s key component click value w there takes. record {
    values = bounds.clicks s key component click value w.values there takes;
    each = λ k. put_within s w k key (with_value (s.cells key) value) (clicks (node_at g key) component click (s.cells key) value there takes);
  };
  passes = λ s w. record { values = bounds.passes s w.values; each = w.each };
}
  where
    bounds : IsInvariant (graph_circuit g) (Bounded (graph_circuit g))
    bounds = bounded_is_invariant (graph_circuit g) test_of_keys (graph_is_bounded g sound)

    begins : (entry : Option Node) → WithinEntry (fixed g) entry (begin_at entry)
    begins None = tt
    begins (Some node) = begin_within (fixed g) node node.kind node.due node.priority

    attends : (s : State ℕ) (key : ℕ) (entry : Option Node) → WithinEntry (fixed g) entry (s.cells key) →
        WithinEntry (fixed g) entry (attended_at s.time (role_at entry) (first_at entry) ((graph_circuit g).readings (outs (graph_circuit g) s)) key (s.cells key))
    attends s key None h = tt
    attends s key (Some node) h = attended_within (fixed g) node node.kind s.time node.first ((graph_circuit g).readings (outs (graph_circuit g) s)) key (s.cells key) h

    fires : (s : State ℕ) → Bounded (graph_circuit g) s → (key : ℕ) (entry : Option Node) → node_at g key ≡ entry →
        WithinEntry (fixed g) entry (fired_at s.time (role_at entry) (first_at entry) ((graph_circuit g).readings (outs (graph_circuit g) s)) key (s.cells key))
    fires s b key None there = tt
    fires s b key (Some node) there = fired_within (fixed g) node node.kind s.time node.first ((graph_circuit g).readings (outs (graph_circuit g) s)) key (s.cells key)
        ((graph_is_bounded g sound).back (outs (graph_circuit g) s) (outs_le (graph_circuit g) (graph_is_bounded g sound) s b) key)
        (subst (λ (e : Option Node). reading (fixed g) Side node.links ≤ (readings_at (outs (graph_circuit g) s) e).side) (sym there)
        (reading-more (fixed g) (outs (graph_circuit g) s) (fixed_le g s) Side node.links))

    clicks : (entry : Option Node) (component : Component) (click : Click) (cell : Cell) (value : ℕ) → role_at entry ≡ Some component → clicked component click cell.value ≡ Some value →
        WithinEntry (fixed g) entry (with_value cell value)
    clicks None component click cell value there takes = tt
    clicks (Some node) component click cell value there takes = clicked_within (fixed g) node node.kind component click cell.value value there takes

    put_within : (s : State ℕ) → Within g s → (k key : ℕ) (cell : Cell) → WithinEntry (fixed g) (node_at g key) cell → WithinEntry (fixed g) (node_at g k) ((put (graph_circuit g) s key cell).cells k)
    put_within s w k key cell h = cond_both ((graph_circuit g).same k key) cell (s.cells k) (WithinEntry (fixed g) (node_at g k))
        (λ e. subst (λ j. WithinEntry (fixed g) (node_at g j) cell) (sym (test_of_keys.one k key e)) h) (λ e. w.each k)

-- So no node gives more than its bound.
pub outs_le-bound : (g : Nodes) → IsSound g → (s : State ℕ) → Within g s → (key : ℕ) → outs (graph_circuit g) s key ≤ bound_at g (node_at g key)
outs_le-bound g sound s w key = by_entry (node_at g key) (w.each key) (outs_le (graph_circuit g) (graph_is_bounded g sound) s w.values key)
  where
    by_kind : (node : Node) (kind : Kind) → WithinKind (fixed g) node kind (s.cells key).value → out_at (role_of kind) (base_of (role_of kind) node.state) (s.cells key) ≤ 15 →
        out_at (role_of kind) (base_of (role_of kind) node.state) (s.cells key) ≤ bound_of (fixed g) node kind
    by_kind node (Comparator true direct far) w h = w
    by_kind node (Comparator false direct far) w h = h
    by_kind node Constant w h = omega arith
    by_kind node _ w h = h

    by_entry : (entry : Option Node) → WithinEntry (fixed g) entry (s.cells key) → out_at (role_at entry) (base_at entry) (s.cells key) ≤ 15 → out_at (role_at entry) (base_at entry) (s.cells key) ≤ bound_at g entry
    by_entry None w h = omega arith
    by_entry (Some node) w h = by_kind node node.kind w h
