-- Bounds of nodes in a list by their numbers, and nodes that Unreach has nothing to do at.
use Rattle.std.specs.Prelude.{◌≡◌, ℕ, ◌<◌, Bool, nat_le, List, Option, get_or, length}
use Rattle.graph.specs.declared.Link.{Link}
use Rattle.graph.specs.Graph.{Node, Nodes, node_at}
use Rattle.graph.specs.Steps.{bound_at}
use Rattle.graph.specs.LinkAt.{EachLink}

-- the list holds the bound of the node
pub record HasBound (g : Nodes) (bounds : List ℕ) (key : ℕ) : Type 0 where
  pub inside : key < length bounds
  pub bound : get_or bounds key 0 ≡ bound_at g (node_at g key)

-- the link weighs as much as the bound of its source
abbrev pub is_spent : List ℕ → Link → Bool
is_spent bounds link = nat_le (get_or bounds link.from 0) link.weight

-- the link weighs less than the bound of its source
abbrev pub IsReaching : List ℕ → Link → Type 0
IsReaching bounds link = link.weight < get_or bounds link.from 0

-- each link into the node is so
abbrev pub IsReached : List ℕ → Option Node → Type 0
IsReached bounds entry = EachLink (IsReaching bounds) entry

-- the list holds the bound of each of these nodes
abbrev pub HasBoundsOf : Nodes → List ℕ → List ℕ → Type 0
HasBoundsOf g keys bounds = (index : ℕ) → index < length keys → HasBound g bounds (get_or keys index 0)

-- no node has another bound
abbrev pub SameBounds : Nodes → Nodes → Type 0
SameBounds old new = (key : ℕ) → bound_at new (node_at new key) ≡ bound_at old (node_at old key)
