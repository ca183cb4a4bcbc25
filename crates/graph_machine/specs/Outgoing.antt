-- The links out of a node, and how many reads an event of it may take.
use Rattle.std.specs.Prelude.{ℕ, ◌+◌, ◌*◌, ◌==◌, List, [], Option, Some, None, count_by, sum_by}
use Rattle.graph.specs.declared.Link.{Link}
use Rattle.graph.specs.Graph.{Node, Nodes}

abbrev pub links_at : Option Node → List Link
links_at None = []
links_at (Some node) = node.links

-- how many links a node has from this key
abbrev pub links_from : ℕ → Option Node → ℕ
links_from from entry = count_by (λ (link : Link). link.from == from) (links_at entry)

-- how many links go out of a key
abbrev pub outgoing : Nodes → ℕ → ℕ
outgoing g from = sum_by (links_from from) g

-- an event of the key reads at most one that says where its links stand, and each link twice
abbrev pub reads_of : Nodes → ℕ → ℕ
reads_of g key = 1 + 2 * outgoing g key
