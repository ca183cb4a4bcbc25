-- The tests of clicks and wires tell what they say.
use Rattle.std.proofs.Common.{◌≡◌, ℕ, ◌≤◌, Bool, true, false, Option, Some, None, refl, ap, ◌∙◌, arith}
use Rattle.std.specs.Prelude.{◌&&◌, nat_lt, nat_le}
use Rattle.std.specs.Ordering.{int_eq}
use Rattle.std.proofs.lemmas.Bool.{and_parts, false≢true}
use Rattle.std.proofs.lemmas.Bool.Decides.{Decides-int_eq, nat_tests}
use Rattle.circuit.specs.declared.Pos.{Pos}
use Rattle.circuit.specs.declared.Click.{Click}
use Rattle.circuit.specs.declared.Click.TheVariants.{Use, Press, Leave, Weigh}
use Rattle.circuit.specs.declared.Component.{Component}
use Rattle.circuit.specs.Component.{takes}
use Rattle.circuit.specs.Taken.{Takes}
use Rattle.graph.specs.declared.Kind.{Kind}
use Rattle.graph.specs.declared.Kind.TheVariants.{Lever, Button, Plate, Weighted, Wire}
use Rattle.graph.specs.Graph.{Node, Nodes, node_at}
use Rattle.graph.specs.GraphCircuit.{role_of, role_at, place_at, graph_circuit}
use Rattle.graph.specs.Clicks.{answers, answers_at, is_wire, is_wire_at, is_same_place, HasAnswer, HasWire, IsClickInRange}

same_place : (p q : Pos) → is_same_place p q ≡ true → p ≡ q
same_place p q h =
    let first : (int_eq p.x q.x ≡ true) × (int_eq p.y q.y && int_eq p.z q.z ≡ true) = and_parts (int_eq p.x q.x) (int_eq p.y q.y && int_eq p.z q.z) h in
    let rest : (int_eq p.y q.y ≡ true) × (int_eq p.z q.z ≡ true) = and_parts (int_eq p.y q.y) (int_eq p.z q.z) first.1 in
    λ i. record { x = (Decides-int_eq p.x q.x).0 first.0 i; y = (Decides-int_eq p.y q.y).0 rest.0 i; z = (Decides-int_eq p.z q.z).0 rest.1 i }

is_wire-true : (kind : Kind) → is_wire kind ≡ true → kind ≡ Wire
is_wire-true Wire h = refl
is_wire-true _ h = absurd (false≢true h)

-- what the test of an entry tells
pub answer_here : (g : Nodes) (key : ℕ) (pos : Pos) (click : Click) (entry : Option Node) → node_at g key ≡ entry → answers_at entry pos click ≡ true → HasAnswer g pos click
answer_here g key pos click None e h = absurd (false≢true h)
answer_here g key pos click (Some node) e h =
    let parts : (is_same_place node.pos pos ≡ true) × (answers node.kind click ≡ true) = and_parts (is_same_place node.pos pos) (answers node.kind click) h in
    record { key = key; node = node; there = e; holds = (same_place node.pos pos parts.0, parts.1) }

pub wire_here : (g : Nodes) (key : ℕ) (pos : Pos) (entry : Option Node) → node_at g key ≡ entry → is_wire_at entry pos ≡ true → HasWire g pos
wire_here g key pos None e h = absurd (false≢true h)
wire_here g key pos (Some node) e h =
    let parts : (is_same_place node.pos pos ≡ true) × (is_wire node.kind ≡ true) = and_parts (is_same_place node.pos pos) (is_wire node.kind) h in
    record { key = key; node = node; there = e; holds = (same_place node.pos pos parts.0, is_wire-true node.kind parts.1) }

abbrev takes_at : Option Component → Click → Bool
takes_at None click = false
takes_at (Some component) click = takes component click

answers-takes : (kind : Kind) (click : Click) → takes_at (role_of kind) click ≡ true → answers kind click ≡ true
answers-takes Lever Use h = refl
answers-takes (Button delay) Use h = refl
answers-takes Plate Press h = refl
answers-takes Plate Leave h = refl
answers-takes Weighted (Weigh weight) h = refl
answers-takes Weighted Leave h = refl
answers-takes _ _ h = absurd (false≢true h)

taken : (kind : Kind) (click : Click) → IsClickInRange click → answers kind click ≡ true → (component : Component) × (role_of kind ≡ Some component) × (takes component click ≡ true)
taken Lever Use r h = (_, refl, refl)
taken (Button delay) Use r h = (_, refl, refl)
taken Plate Press r h = (_, refl, refl)
taken Plate Leave r h = (_, refl, refl)
taken Weighted (Weigh weight) r h = (_, refl, weighed weight r)
  where
    weighed : (weight : ℕ) → (1 ≤ weight) × (weight ≤ 15) → nat_lt 0 weight && nat_le weight 15 ≡ true
    weighed weight r = grind (arith, nat_tests)
taken Weighted Leave r h = (_, refl, refl)
taken _ _ r h = absurd (false≢true h)

-- who answers to a click takes it
pub takes_where_answers : (g : Nodes) (pos : Pos) (click : Click) → IsClickInRange click → HasAnswer g pos click → Takes (graph_circuit g) pos click
takes_where_answers g pos click r a =
    let t = taken a.node.kind click r a.holds.1 in
    record { key = a.key; component = t.0; there = ap role_at a.there ∙ t.1; place = ap place_at a.there ∙ a.holds.0; taken = t.2 }

-- and nobody else does
pub answers_where_takes : (g : Nodes) (pos : Pos) (click : Click) → Takes (graph_circuit g) pos click → HasAnswer g pos click
answers_where_takes g pos click t = by_entry (node_at g t.key) refl t.there t.place
  where
    by_entry : (entry : Option Node) → node_at g t.key ≡ entry → role_at entry ≡ Some t.component → place_at entry ≡ pos → HasAnswer g pos click
    by_entry None e role place = absurd (cc)
    by_entry (Some node) e role place =
        record { key = t.key; node = node; there = e; holds = (place, answers-takes node.kind click (ap (λ r. takes_at r click) role ∙ t.taken)) }
