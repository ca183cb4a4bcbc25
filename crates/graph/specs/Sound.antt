-- Which graphs are sound.
use Rattle.std.specs.Prelude.{◌≡◌, ◌≢◌, ◌⊎◌, ℕ, ◌≤◌, Bool, true, false, List, [], ◌∷◌, ◌++◌, Option, Some, None, slice_get, IfSome}
use Rattle.circuit.specs.declared.Pos.{Pos}
use Rattle.circuit.specs.declared.Component.{Component}
use Rattle.circuit.specs.Component.{top}
use Rattle.circuit.specs.Circuit.{EachBefore}
use Rattle.graph.specs.declared.Kind.{Kind}
use Rattle.graph.specs.declared.Kind.TheVariants.{Lever, Button, Plate, Weighted, Torch, Repeater, Comparator, Lamp, Trapdoor, Note, Wire, Constant}
use Rattle.graph.specs.declared.Link.{Link}
use Rattle.graph.specs.Graph.{Node, Nodes, node_at, Lives}
use Rattle.graph.specs.GraphCircuit.{role_of}

-- the greatest state: that of the component, for a Constant 15
abbrev pub top_of : Option Component → ℕ
top_of None = 15
top_of (Some component) = top component

abbrev pub IsKindInRange : Kind → Type 0
IsKindInRange (Button delay) = (delay ≡ 10) ⊎ (delay ≡ 15)
IsKindInRange (Repeater delay) = (1 ≤ delay) × (delay ≤ 4)
IsKindInRange (Comparator subtract direct far) = IfSome direct (λ strength. strength ≤ 15) × IfSome far (λ strength. strength ≤ 15)
IsKindInRange Lever = Unit {0}
IsKindInRange Plate = Unit {0}
IsKindInRange Weighted = Unit {0}
IsKindInRange Torch = Unit {0}
IsKindInRange Lamp = Unit {0}
IsKindInRange Trapdoor = Unit {0}
IsKindInRange Note = Unit {0}
IsKindInRange Wire = Unit {0}
IsKindInRange Constant = Unit {0}

-- which kinds may have a pending tick
abbrev pub can_wait : Kind → Bool
can_wait Torch = true
can_wait (Repeater delay) = true
can_wait (Comparator subtract direct far) = true
can_wait Lamp = true
can_wait (Button delay) = true
can_wait Lever = false
can_wait Plate = false
can_wait Weighted = false
can_wait Trapdoor = false
can_wait Note = false
can_wait Wire = false
can_wait Constant = false

-- Each number of the node is in its range, only a kind that may wait has a pending tick, and its links come from nodes.
pub record IsSoundNode (g : Nodes) (node : Node) : Type 0 where
  pub state : node.state ≤ top_of (role_of node.kind)
  pub kind : IsKindInRange node.kind
  pub due : node.due ≤ 15
  pub priority : node.priority ≤ 3
  pub waiting : node.due ≢ 0 → can_wait node.kind ≡ true
  pub idle : node.due ≡ 0 → node.priority ≡ 0
  pub links : (index : ℕ) (link : Link) → slice_get node.links index ≡ Some link → (link.weight ≤ 15) × Lives g link.from

abbrev pub places_at : Option Node → List Pos
places_at None = []
places_at (Some node) = node.pos ∷ node.also

-- all places that nodes stand for
abbrev pub places_of : Nodes → List Pos
places_of [] = []
places_of (entry ∷ entries) = places_at entry ++ places_of entries

-- Each node is sound, and no place stands twice.
pub record IsSound (g : Nodes) : Type 0 where
  pub each : (key : ℕ) (node : Node) → node_at g key ≡ Some node → IsSoundNode g node
  pub apart : EachBefore (λ a b. a ≢ b) (places_of g)
