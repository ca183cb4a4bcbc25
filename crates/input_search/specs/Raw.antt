-- The raw graph of a build: its nodes, and the links into each.
use Rattle.std.specs.Prelude.{◌≡◌, ℕ, suc, if◌then◌else◌, List, [], ◌∷◌, ◌++◌, map, Some}
use Rattle.circuit.specs.declared.Pos.{Pos}
use Rattle.circuit.specs.Circuit.{State}
use Rattle.build.specs.Place.{same_place}
use Rattle.build.specs.Plan.{Plan, block_at}
use Rattle.graph.specs.declared.Group.{Group}
use Rattle.graph.specs.declared.Group.TheVariants.{Back, Side}
use Rattle.graph.specs.declared.Link.{Link}
use Rattle.graph.specs.Graph.{Node, Nodes, node_at}
use Rattle.graph.specs.GraphCircuit.{place_at}
use Rattle.graph.specs.RawNodes.{bare_node, bare_nodes, node_places}
use Rattle.input_search.specs.Links.{From, back_links_of, side_links_of}

-- the nodes of a build and some marks, before they are linked
pub record IsBare (b : Plan) (g : Nodes) : Type 0 where
  pub marks : List Pos
  pub nodes : g ≡ bare_nodes b marks

-- where a place stands in a list
abbrev pub number_in : List Pos → Pos → ℕ
number_in [] p = 0
number_in (q ∷ qs) p = if same_place p q then 0 else suc (number_in qs p)

-- a link from the node of a place, by its number
abbrev pub link_of : List Pos → Group → From → Link
link_of places group from = record { from = number_in places from.place; group = group; weight = from.weight }

-- the links into the node of a place, Back before Side, where these places have nodes
unfoldable pub links_of : Plan → List Pos → Pos → List Link
links_of b places p = map (link_of places Back) (back_links_of b p (block_at b p)) ++ map (link_of places Side) (side_links_of b p (block_at b p))

abbrev pub linked_node : Plan → List Pos → List Pos → Pos → Node
linked_node b marks places p = record (bare_node b marks p) { links = links_of b places p }

unfoldable pub raw : Plan → List Pos → Nodes
raw b marks = map (λ p. Some (linked_node b marks (node_places b marks) p)) (node_places b marks)

-- the place of a node
abbrev pub stands_at : Nodes → ℕ → Pos
stands_at g key = place_at (node_at g key)

-- each node holds what its place holds
pub record HoldAlike (g : Nodes) (nodes : State ℕ) (places : State Pos) : Type 0 where
  pub time : nodes.time ≡ places.time
  pub cells : (key : ℕ) (node : Node) → node_at g key ≡ Some node → nodes.cells key ≡ places.cells node.pos
