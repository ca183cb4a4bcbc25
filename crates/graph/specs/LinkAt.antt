-- The links into a node by their indices.
use Rattle.std.specs.Prelude.{◌≡◌, ◌≢◌, ℕ, List, [], Option, Some, None, slice_get}
use Rattle.graph.specs.declared.Link.{Link}
use Rattle.graph.specs.Graph.{Node, Nodes, node_at}

abbrev pub links_of : Option Node → List Link
links_of None = []
links_of (Some node) = node.links

abbrev pub link_at : Nodes → ℕ → ℕ → Option Link
link_at g key index = slice_get (links_of (node_at g key)) index

-- each link into the node is so
abbrev pub EachLink : (Link → Type 0) → Option Node → Type 0
EachLink P entry = (index : ℕ) (link : Link) → slice_get (links_of entry) index ≡ Some link → P link

-- no other node than this one differs
abbrev pub SameOthers : Nodes → Nodes → ℕ → Type 0
SameOthers old new key = (other : ℕ) → other ≢ key → node_at new other ≡ node_at old other
