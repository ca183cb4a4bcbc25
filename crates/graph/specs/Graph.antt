-- A graph as plain data.
use Rattle.std.specs.Prelude.{◌≡◌, ℕ, ◌≤◌, ◌≢◌, Bool, List, Option, Some, None, IsSome, count_by, is_some, sum_by, length, get_or, slice_get}
use Rattle.circuit.specs.declared.Pos.{Pos}
use Rattle.graph.specs.declared.Kind.{Kind}
use Rattle.graph.specs.declared.Link.{Link}

-- One node, with the links into it. `also` are further places that it stands for.
pub record Node : Type 0 where
  pub pos : Pos
  pub kind : Kind
  pub state : ℕ
  pub first : Bool
  pub due : ℕ
  pub priority : ℕ
  pub links : List Link
  pub also : List Pos

-- What stands under each key, from key 0 on. A dropped key holds nothing, and no key is given twice.
abbrev pub Nodes : Type 0
Nodes = List (Option Node)

-- The nodes, and for how many more links each has room. No definition but those of room looks at the second.
pub record Graph : Type 0 where
  pub nodes : Nodes
  pub spares : List ℕ

abbrev pub node_at : Nodes → ℕ → Option Node
node_at g key = get_or g key None

-- a node stands under the key
abbrev pub Lives : Nodes → ℕ → Type 0
Lives g key = IsSome (node_at g key)

-- A link into a node, by its index there.
pub record HasLink (g : Nodes) (key index : ℕ) (link : Link) : Type 0 where
  pub node : Node
  pub there : node_at g key ≡ Some node
  pub at_index : slice_get node.links index ≡ Some link

-- some node is so
pub record HasNode (g : Nodes) (P : Node → Type 0) : Type 0 where
  pub key : ℕ
  pub node : Node
  pub there : node_at g key ≡ Some node
  pub holds : P node

abbrev pub node_count : Nodes → ℕ
node_count g = count_by is_some g

abbrev pub links_into : Option Node → ℕ
links_into None = 0
links_into (Some node) = length node.links

abbrev pub link_count : Nodes → ℕ
link_count g = sum_by links_into g

abbrev pub spare_of : Graph → ℕ → ℕ
spare_of graph key = get_or graph.spares key 0

-- no node lost room for links
abbrev pub KeepsRoom : Graph → Graph → Type 0
KeepsRoom old new = (key : ℕ) → spare_of old key ≤ spare_of new key

-- and no other than this one
abbrev pub KeepsOtherRoom : Graph → Graph → ℕ → Type 0
KeepsOtherRoom old new key = (other : ℕ) → other ≢ key → spare_of old other ≤ spare_of new other
