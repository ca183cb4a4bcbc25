-- Nodes that Dedup has nothing to do at.
use Rattle.std.specs.Prelude.{◌≡◌, ℕ, Bool, ◌==◌, ◌&&◌, List, Option, Some, slice_get}
use Rattle.graph.specs.declared.Link.{Link}
use Rattle.graph.specs.Graph.{Node}
use Rattle.graph.specs.LinkAt.{links_of}
use Rattle.graph.specs.Links.{is_group}

-- the other one comes from the source of the link, in its group
abbrev pub is_beside : Link → Link → Bool
is_beside link other = (link.from == other.from) && is_group link.group other.group

-- no two of these links come from one source in one group
abbrev pub AreSingle : List Link → Type 0
AreSingle links = (i j : ℕ) (a b : Link) → slice_get links i ≡ Some a → slice_get links j ≡ Some b → a.from ≡ b.from → a.group ≡ b.group → i ≡ j

-- nor of the links into the node
abbrev pub IsSingle : Option Node → Type 0
IsSingle entry = AreSingle (links_of entry)
