-- The links into a node: those of the back before those of the side.
use Rattle.std.specs.Prelude.{◌≡◌, ℕ, ◌-◌, ◌^◌, min, Bool, true, false, List, ◌++◌, Some, length, filter}
use Rattle.graph.specs.declared.Group.{Group}
use Rattle.graph.specs.declared.Group.TheVariants.{Back, Side}
use Rattle.graph.specs.declared.Link.{Link}
use Rattle.graph.specs.declared.Links.TheInside.{Inside}
use Rattle.graph.specs.Graph.{Node, Nodes, node_at}

-- The links in order, and how many more find room. No node has more than 2 ^ 32 links.
pub record LinkList : Type 0 where
  pub items : List Link
  pub spare : ℕ

abbrev pub link_list : Inside → LinkList
link_list a = record { items = a.items.items; spare = min a.items.capacity (2 ^ 32) - length a.items.items }

abbrev pub is_group : Group → Group → Bool
is_group Back Back = true
is_group Side Side = true
is_group _ _ = false

abbrev pub of_group : Group → Link → Bool
of_group group link = is_group group link.group

-- the same links, Back before Side
abbrev pub in_groups : List Link → List Link
in_groups links = filter (of_group Back) links ++ filter (of_group Side) links

-- the Back links of each node stand before its Side links
abbrev pub IsInGroups : Nodes → Type 0
IsInGroups g = (key : ℕ) (node : Node) → node_at g key ≡ Some node → in_groups node.links ≡ node.links
