-- The parts of a merge, and where the links go that it renames.
use Rattle.std.specs.Prelude.{◌≡◌, ℕ, List, ◌++◌, None, set}
use Rattle.circuit.specs.Circuit.{Among}
use Rattle.circuit.specs.declared.Pos.{Pos}
use Rattle.graph.specs.declared.Link.{Link}
use Rattle.graph.specs.Graph.{Node, Nodes, node_at, HasLink}
use Rattle.graph.specs.Edits.{change, standing_for}

-- the node stands for these places too
abbrev pub with_places : List Pos → Node → Node
with_places places node = record node { also = node.also ++ places }

-- `keep` stands for the places of `gone`, which is dropped
abbrev pub taken_over : Nodes → ℕ → ℕ → Nodes
taken_over g keep gone = set (change (standing_for (node_at g gone)) g keep) gone None

-- each link from the node goes into one of these
pub record IsFanOut (g : Nodes) (from : ℕ) (targets : List ℕ) : Type 0 where
  pub all : (key index : ℕ) (link : Link) → HasLink g key index link → link.from ≡ from → Among targets key
