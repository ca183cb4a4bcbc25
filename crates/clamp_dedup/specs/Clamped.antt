-- Nodes that Clamp has nothing to do at.
use Rattle.std.specs.Prelude.{◌<◌, Bool, nat_le, Option}
use Rattle.graph.specs.declared.Link.{Link}
use Rattle.graph.specs.Graph.{Node}
use Rattle.graph.specs.LinkAt.{EachLink}

-- no node gives more than this link takes
abbrev pub is_heavy : Link → Bool
is_heavy link = nat_le 15 link.weight

-- a link that may bring something
abbrev pub IsLight : Link → Type 0
IsLight link = link.weight < 15

-- each link into the node is so
abbrev pub IsClamped : Option Node → Type 0
IsClamped entry = EachLink IsLight entry
