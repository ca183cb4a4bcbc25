-- Nodes that stand for one place each.
use Rattle.std.specs.Prelude.{◌≡◌, ◌≢◌, ℕ, ◌<◌, ◌≤◌, List, [], Some, slice_get}
use Rattle.graph.specs.declared.Link.{Link}
use Rattle.graph.specs.Graph.{Node, Nodes, node_at, Lives}

-- the links come from nodes, and weigh 15 at most
abbrev pub LinksAreSound : Nodes → List Link → Type 0
LinksAreSound g links = (index : ℕ) (link : Link) → slice_get links index ≡ Some link → (link.weight ≤ 15) × Lives g link.from

-- the node stands for its place alone, and none before it stands there
abbrev pub IsAloneBefore : Nodes → ℕ → Type 0
IsAloneBefore g number = (node : Node) → node_at g number ≡ Some node → (node.also ≡ []) × ((other : ℕ) (before : Node) → other < number → node_at g other ≡ Some before → before.pos ≢ node.pos)
