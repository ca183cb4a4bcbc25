-- A graph as a circuit: its keys are numbers, and a node reads by its links.
use Rattle.std.specs.Prelude.{ℕ, suc, map, Bool, true, false, ◌&&◌, ◌||◌, ◌==◌, List, [], ◌∷◌, Option, Some, None, if◌then◌else◌, pos, int_lt}
use Rattle.std.specs.Ordering.{int_eq}
use Rattle.circuit.specs.declared.Pos.{Pos}
use Rattle.circuit.specs.declared.Component.{Component}
use Rattle.circuit.specs.declared.Component.TheVariants.{Lever as LeverPart, Button as ButtonPart, Plate as PlatePart, Weighted as WeightedPart, Torch as TorchPart, Repeater as RepeaterPart, Comparator as ComparatorPart, Lamp as LampPart, Trapdoor as TrapdoorPart, Note as NotePart, Wire as WirePart}
use Rattle.circuit.specs.declared.Readings.{Readings}
use Rattle.circuit.specs.declared.Cell.{Cell}
use Rattle.circuit.specs.Circuit.{Circuit}
use Rattle.graph.specs.declared.Kind.{Kind}
use Rattle.graph.specs.declared.Kind.TheVariants.{Lever, Button, Plate, Weighted, Torch, Repeater, Comparator, Lamp, Trapdoor, Note, Wire, Constant}
use Rattle.graph.specs.Graph.{Node, Nodes, node_at}
use Rattle.graph.specs.Readings.{readings_of}

-- the component that a node is; a Constant is none
abbrev pub role_of : Kind → Option Component
role_of Lever = Some LeverPart
role_of (Button delay) = Some (ButtonPart delay)
role_of Plate = Some PlatePart
role_of Weighted = Some WeightedPart
role_of Torch = Some TorchPart
role_of (Repeater delay) = Some (RepeaterPart delay)
role_of (Comparator subtract direct far) = Some (ComparatorPart subtract)
role_of Lamp = Some LampPart
role_of Trapdoor = Some TrapdoorPart
role_of Note = Some NotePart
role_of Wire = Some WirePart
role_of Constant = None

abbrev pub role_at : Option Node → Option Component
role_at None = None
role_at (Some node) = role_of node.kind

abbrev pub first_at : Option Node → Bool
first_at None = false
first_at (Some node) = node.first

-- a node without a component, a Constant, gives its state always
abbrev pub base_of : Option Component → ℕ → ℕ
base_of None state = state
base_of (Some component) state = 0

abbrev pub base_at : Option Node → ℕ
base_at None = 0
base_at (Some node) = base_of (role_of node.kind) node.state

abbrev pub nothing : Cell
nothing = record { value = 0; due = 0; priority = 0 }

-- and holds nothing
abbrev pub begin_of : Option Component → Cell → Cell
begin_of None cell = nothing
begin_of (Some component) cell = cell

-- a component begins with its state and its pending tick
abbrev pub begin_at : Option Node → Cell
begin_at None = nothing
begin_at (Some node) = begin_of (role_of node.kind) (record { value = node.state; due = node.due; priority = node.priority })

abbrev pub origin : Pos
origin = record { x = pos 0; y = pos 0; z = pos 0 }

abbrev pub place_at : Option Node → Pos
place_at None = origin
place_at (Some node) = node.pos

abbrev pub readings_at : (ℕ → ℕ) → Option Node → Readings
readings_at given None = record { back = 0; side = 0 }
readings_at given (Some node) = readings_of given node

-- the order of places: by y, then z, then x
abbrev pub is_before : Pos → Pos → Bool
is_before p q = int_lt p.y q.y || (int_eq p.y q.y && (int_lt p.z q.z || (int_eq p.z q.z && int_lt p.x q.x)))

-- what a view shows
abbrev pub is_output : Kind → Bool
is_output Lamp = true
is_output Trapdoor = true
is_output Note = true
is_output Wire = true
is_output Lever = false
is_output (Button delay) = false
is_output Plate = false
is_output Weighted = false
is_output Torch = false
is_output (Repeater delay) = false
is_output (Comparator subtract direct far) = false
is_output Constant = false

-- an output, by its place and its key
pub record Output : Type 0 where
  pub place : Pos
  pub key : ℕ

abbrev pub output_of : ℕ → Option Node → Option Output
output_of key None = None
output_of key (Some node) = if is_output node.kind then Some (record { place = node.pos; key = key }) else None

-- the list with one more, which stands behind each that its place isn't before
abbrev pub in_order : Option Output → List Output → List Output
in_order None others = others
in_order (Some one) [] = one ∷ []
in_order (Some one) (other ∷ others) = if is_before one.place other.place then one ∷ other ∷ others else other ∷ in_order (Some one) others

-- the outputs in the order of their places, where these entries stand from this key on
abbrev pub outputs_from : ℕ → Nodes → List Output
outputs_from key [] = []
outputs_from key (entry ∷ entries) = in_order (output_of key entry) (outputs_from (suc key) entries)

abbrev pub graph_circuit : Nodes → Circuit ℕ
graph_circuit g = record {
  same = λ a b. a == b;
  role = λ key. role_at (node_at g key);
  first = λ key. first_at (node_at g key);
  base = λ key. base_at (node_at g key);
  begin = λ key. begin_at (node_at g key);
  place = λ key. place_at (node_at g key);
  readings = λ given key. readings_at given (node_at g key);
  shown = map (λ one. one.key) (outputs_from 0 g);
}
