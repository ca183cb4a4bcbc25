-- How a graph is stored. No public clause but that of `node` cites this module.
use Rattle.std.specs.Prelude.{◌≡◌, ℕ, ◌≤◌, ◌^◌, List, Option, Some, None, map, option_map, length}
use Rattle.node_arena.specs.Items.{Items}
use Rattle.graph.specs.declared.Node.{Node as StoredNode}
use Rattle.graph.specs.declared.Graph.TheInside.{Inside}
use Rattle.graph.specs.Graph.{Node, Nodes, Graph, node_at}
use Rattle.graph.specs.Links.{IsInGroups}

-- a node as plain data
abbrev pub plain : StoredNode → Node
plain n = record { pos = n.pos; kind = n.kind; state = n.state; first = n.first; due = n.due; priority = n.priority; links = n.links.items; also = n.also.items.items }

abbrev pub plain_nodes : List (Option StoredNode) → Nodes
plain_nodes entries = map (option_map plain) entries

abbrev pub room_at : Option StoredNode → ℕ
room_at None = 0
room_at (Some n) = n.links.spare

abbrev pub plain_graph : Items StoredNode → Graph
plain_graph arena = record { nodes = plain_nodes arena.entries; spares = map room_at arena.entries }

-- the links of each node are in their groups, and not too many to be counted
pub record IsStored (g : Nodes) : Type 0 where
  pub groups : IsInGroups g
  pub few : (key : ℕ) (node : Node) → node_at g key ≡ Some node → length node.links ≤ 2 ^ 32

abbrev pub graph_of : Inside → Graph
graph_of a = plain_graph a.nodes

abbrev pub IsStoredGraph : Inside → Type 0
IsStoredGraph a = IsStored (plain_nodes a.nodes.entries)
