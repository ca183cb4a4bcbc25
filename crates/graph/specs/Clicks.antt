-- Which nodes answer to a click, and which places have a wire that is looked at.
use Rattle.std.specs.Prelude.{◌≡◌, ◌≤◌, Bool, true, false, ◌&&◌, Option, Some, None}
use Rattle.std.specs.Ordering.{int_eq}
use Rattle.circuit.specs.declared.Pos.{Pos}
use Rattle.circuit.specs.declared.Click.{Click}
use Rattle.circuit.specs.declared.Click.TheVariants.{Use, Press, Leave, Weigh}
use Rattle.graph.specs.declared.Kind.{Kind}
use Rattle.graph.specs.declared.Kind.TheVariants.{Lever, Button, Plate, Weighted, Torch, Repeater, Comparator, Lamp, Trapdoor, Note, Wire, Constant}
use Rattle.graph.specs.Graph.{Node, Nodes, HasNode}

-- whether a node of the kind answers to the click, whatever its weight
abbrev pub answers : Kind → Click → Bool
answers Lever Use = true
answers Lever Press = false
answers Lever Leave = false
answers Lever (Weigh weight) = false
answers (Button delay) Use = true
answers (Button delay) Press = false
answers (Button delay) Leave = false
answers (Button delay) (Weigh weight) = false
answers Plate Use = false
answers Plate Press = true
answers Plate Leave = true
answers Plate (Weigh weight) = false
answers Weighted Use = false
answers Weighted Press = false
answers Weighted Leave = true
answers Weighted (Weigh weight) = true
answers Torch click = false
answers (Repeater delay) click = false
answers (Comparator subtract direct far) click = false
answers Lamp click = false
answers Trapdoor click = false
answers Note click = false
answers Wire click = false
answers Constant click = false

-- some node of the place answers to the click
abbrev pub HasAnswer : Nodes → Pos → Click → Type 0
HasAnswer g pos click = HasNode g (λ node. (node.pos ≡ pos) × (answers node.kind click ≡ true))

-- some node of the place is a Wire
abbrev pub HasWire : Nodes → Pos → Type 0
HasWire g pos = HasNode g (λ node. (node.pos ≡ pos) × (node.kind ≡ Wire))

-- a weight is 1 to 15
abbrev pub IsClickInRange : Click → Type 0
IsClickInRange (Weigh weight) = (1 ≤ weight) × (weight ≤ 15)
IsClickInRange Use = Unit {0}
IsClickInRange Press = Unit {0}
IsClickInRange Leave = Unit {0}

abbrev pub is_same_place : Pos → Pos → Bool
is_same_place p q = int_eq p.x q.x && (int_eq p.y q.y && int_eq p.z q.z)

abbrev pub is_wire : Kind → Bool
is_wire Wire = true
is_wire Lever = false
is_wire (Button delay) = false
is_wire Plate = false
is_wire Weighted = false
is_wire Torch = false
is_wire (Repeater delay) = false
is_wire (Comparator subtract direct far) = false
is_wire Lamp = false
is_wire Trapdoor = false
is_wire Note = false
is_wire Constant = false

-- the same as tests of one entry
abbrev pub answers_at : Option Node → Pos → Click → Bool
answers_at None pos click = false
answers_at (Some node) pos click = is_same_place node.pos pos && answers node.kind click

abbrev pub is_wire_at : Option Node → Pos → Bool
is_wire_at None pos = false
is_wire_at (Some node) pos = is_same_place node.pos pos && is_wire node.kind
