-- What is noted of the firings of a graph.
use Rattle.std.specs.Prelude.{ℕ, Bool, true, false, List, []}
use Rattle.std.specs.List.{flat_map}
use Rattle.graph.specs.Graph.{Nodes, node_at}
use Rattle.graph.specs.Sound.{places_at}
use Rattle.report.specs.FireLine.{fire_line}

-- the fire lines of the places of the node under a key: its own, and then those that it stands for too
abbrev pub node_lines : Nodes → ℕ → List ℕ
node_lines g key = flat_map fire_line (places_at (node_at g key))

-- nothing, or the fire lines of the keys that fired, in their order
abbrev pub fires_noted : Bool → Nodes → List ℕ → List ℕ
fires_noted false g = λ keys. []
fires_noted true g = λ keys. flat_map (node_lines g) keys
