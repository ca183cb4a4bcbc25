-- What each step lowers.
use Rattle.std.specs.Prelude.{ℕ, ◌+◌, [], ◌∷◌, Option, Some, None, length}
use Rattle.graph.specs.declared.Kind.{Kind}
use Rattle.graph.specs.declared.Kind.TheVariants.{Lever, Button, Plate, Weighted, Torch, Repeater, Comparator, Lamp, Trapdoor, Note, Wire, Constant}
use Rattle.graph.specs.Graph.{Node, Nodes}

-- 0 for a Constant, else 1
abbrev pub changing : Kind → ℕ
changing Constant = 0
changing Lever = 1
changing (Button delay) = 1
changing Plate = 1
changing Weighted = 1
changing Torch = 1
changing (Repeater delay) = 1
changing (Comparator subtract direct far) = 1
changing Lamp = 1
changing Trapdoor = 1
changing Note = 1
changing Wire = 1

abbrev pub measure_at : Option Node → ℕ
measure_at None = 0
measure_at (Some node) = 1 + length node.links + changing node.kind

-- nodes, links, and nodes that aren't Constant
abbrev pub measure : Nodes → ℕ
measure [] = 0
measure (entry ∷ entries) = measure_at entry + measure entries
