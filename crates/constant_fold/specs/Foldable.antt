-- Which nodes can be folded, by tests.
use Rattle.std.specs.Prelude.{◌≡◌, ℕ, Bool, true, false, ◌||◌, ◌==◌, List, Option, Some, None, slice_get, if◌then◌else◌}
use Rattle.std.specs.List.{list_all}
use Rattle.circuit.specs.declared.Component.{Component}
use Rattle.circuit.specs.declared.Component.TheVariants.{Torch as TorchPart, Repeater as RepeaterPart, Comparator as ComparatorPart}
use Rattle.circuit.specs.Component.{goal, locked, out}
use Rattle.graph.specs.declared.Kind.{Kind}
use Rattle.graph.specs.declared.Kind.TheVariants.{Lever, Button, Plate, Weighted, Torch, Repeater, Comparator, Lamp, Trapdoor, Note, Wire, Constant}
use Rattle.graph.specs.declared.Link.{Link}
use Rattle.graph.specs.Graph.{Node, Nodes, node_at}
use Rattle.graph.specs.Readings.{readings_of}
use Rattle.graph.specs.Steps.{fixed}

abbrev pub is_constant_kind : Kind → Bool
is_constant_kind Constant = true
is_constant_kind Lever = false
is_constant_kind (Button delay) = false
is_constant_kind Plate = false
is_constant_kind Weighted = false
is_constant_kind Torch = false
is_constant_kind (Repeater delay) = false
is_constant_kind (Comparator subtract direct far) = false
is_constant_kind Lamp = false
is_constant_kind Trapdoor = false
is_constant_kind Note = false
is_constant_kind Wire = false

abbrev pub is_constant : Option Node → Bool
is_constant None = false
is_constant (Some node) = is_constant_kind node.kind

-- the component of a kind that may be folded
abbrev pub folding_part : Kind → Option Component
folding_part Torch = Some TorchPart
folding_part (Repeater delay) = Some (RepeaterPart delay)
folding_part (Comparator subtract direct far) = Some (ComparatorPart subtract)
folding_part Lever = None
folding_part (Button delay) = None
folding_part Plate = None
folding_part Weighted = None
folding_part Lamp = None
folding_part Trapdoor = None
folding_part Note = None
folding_part Wire = None
folding_part Constant = None

-- and of a node without a pending tick
abbrev pub part_of : Node → Option Component
part_of node = if node.due == 0 then folding_part node.kind else None

abbrev pub part_at : Option Node → Option Component
part_at None = None
part_at (Some node) = part_of node

-- whether it is at its goal or locked by what Constants give
abbrev pub is_at_rest : Nodes → Node → Component → Bool
is_at_rest g node component = (node.state == goal component (readings_of (fixed g) node)) || locked component (readings_of (fixed g) node)

abbrev pub rest_value : Nodes → Node → Component → Option ℕ
rest_value g node component = if is_at_rest g node component then Some (out component node.state) else None

abbrev pub rest_value_at : Nodes → Option Node → Component → Option ℕ
rest_value_at g None component = None
rest_value_at g (Some node) component = rest_value g node component

-- all these links come from Constants
abbrev pub are_fixed : Nodes → List Link → Bool
are_fixed g links = list_all (λ link. is_constant (node_at g link.from)) links

abbrev pub fold_value_of : Nodes → Node → Option Component → Option ℕ
fold_value_of g node None = None
fold_value_of g node (Some component) = if are_fixed g node.links then rest_value g node component else None

-- what the node gives for good, if it can be folded now
abbrev pub fold_value : Nodes → Node → Option ℕ
fold_value g node = fold_value_of g node (part_of node)

abbrev pub fold_value_at : Nodes → Option Node → Option ℕ
fold_value_at g None = None
fold_value_at g (Some node) = fold_value g node

-- all links into the node come from Constants
abbrev pub ReadsConstants : Nodes → Node → Type 0
ReadsConstants g node = (index : ℕ) (link : Link) → slice_get node.links index ≡ Some link → is_constant (node_at g link.from) ≡ true

-- A fold makes a Constant of this value of it.
pub record IsFoldable (g : Nodes) (key value : ℕ) : Type 0 where
  pub node : Node
  pub component : Component
  pub there : node_at g key ≡ Some node
  pub part : part_of node ≡ Some component
  pub sources : ReadsConstants g node
  pub rests : is_at_rest g node component ≡ true
  pub gives : value ≡ out component node.state

-- It can't be folded, and no fold of another node changes that.
pub data IsStuck (g : Nodes) (node : Node) : Type 0 where
  NoPart : part_of node ≡ None → IsStuck g node
  Moves : ReadsConstants g node → (component : Component) → part_of node ≡ Some component → is_at_rest g node component ≡ false → IsStuck g node
