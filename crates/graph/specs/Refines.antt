-- When a graph shows no more than another.
use Rattle.std.specs.Prelude.{◌≡◌, Bool, true, false}
use Rattle.circuit.specs.declared.Pos.{Pos}
use Rattle.circuit.specs.Shows.{Refines as ShowsNoMore}
use Rattle.graph.specs.declared.Kind.{Kind}
use Rattle.graph.specs.declared.Kind.TheVariants.{Lever, Button, Plate, Weighted, Torch, Repeater, Comparator, Lamp, Trapdoor, Note, Wire, Constant}
use Rattle.graph.specs.Graph.{Nodes, HasNode}
use Rattle.graph.specs.GraphCircuit.{graph_circuit}

-- whether a user sees or clicks a node of the kind: all but torches, repeaters, comparators and Constants
abbrev pub is_outer : Kind → Bool
is_outer Torch = false
is_outer (Repeater delay) = false
is_outer (Comparator subtract direct far) = false
is_outer Constant = false
is_outer Lever = true
is_outer (Button delay) = true
is_outer Plate = true
is_outer Weighted = true
is_outer Lamp = true
is_outer Trapdoor = true
is_outer Note = true
is_outer Wire = true

-- a node of the kind stands at the place
abbrev pub StandsAt : Nodes → Pos → Kind → Type 0
StandsAt g pos kind = HasNode g (λ node. (node.pos ≡ pos) × (node.kind ≡ kind))

-- All that `new` shows, `old` shows, and both have the same outer nodes by place and kind.
pub record Refines (old new : Nodes) : Type 0 where
  pub shows : ShowsNoMore (graph_circuit old) (graph_circuit new)
  pub kept : (pos : Pos) (kind : Kind) → is_outer kind ≡ true → StandsAt old pos kind → StandsAt new pos kind
  pub none_new : (pos : Pos) (kind : Kind) → is_outer kind ≡ true → StandsAt new pos kind → StandsAt old pos kind
