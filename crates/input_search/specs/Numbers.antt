-- Links with the numbers of the nodes that they come from.
use Rattle.std.specs.Prelude.{◌≡◌, ℕ, ◌<◌, true, List, [], ◌++◌, length, map, get_or, Option, Some, None, is_some, if◌then◌else◌}
use Rattle.std.specs.Option.{option_map_or}
use Rattle.cell_numbers.specs.Numbers.{number_in}
use Rattle.circuit.specs.declared.Pos.{Pos}
use Rattle.build.specs.Plan.{Plan, block_at, in_box, cell_of}
use Rattle.graph.specs.declared.Group.{Group}
use Rattle.graph.specs.declared.Group.TheVariants.{Back, Side}
use Rattle.graph.specs.declared.Link.{Link}
use Rattle.graph.specs.Graph.{Node, Nodes, node_at}
use Rattle.input_search.specs.Links.{From, back_links_of, side_links_of}

-- the number of the node of a place, by the cells in which nodes stand, and 0 where none stands
abbrev pub node_number : Plan → List ℕ → Pos → ℕ
node_number b cells p = option_map_or (λ (n : ℕ). n) (if in_box b p then number_in cells (cell_of b p) else None) 0

-- a link from the node of a place, by its number
abbrev pub numbered : Plan → List ℕ → Group → From → Link
numbered b cells group from = record { from = node_number b cells from.place; group = group; weight = from.weight }

abbrev pub numbered_links : Plan → List ℕ → Pos → List Link
numbered_links b numbers p = map (numbered b numbers Back) (back_links_of b p (block_at b p)) ++ map (numbered b numbers Side) (side_links_of b p (block_at b p))

-- the place of a node
abbrev pub node_place : Option Node → Option Pos
node_place None = None
node_place (Some node) = Some node.pos

-- the nodes stand in the box, in order of places
pub record IsSpread (b : Plan) (g : Nodes) : Type 0 where
  pub inside : (key : ℕ) (p : Pos) → node_place (node_at g key) ≡ Some p → in_box b p ≡ true
  pub rise : (key other : ℕ) (p q : Pos) → key < other → node_place (node_at g key) ≡ Some p → node_place (node_at g other) ≡ Some q → cell_of b p < cell_of b q

-- each of the first n keys has a node
abbrev pub AreThere : Nodes → ℕ → Type 0
AreThere g n = (key : ℕ) → key < n → is_some (node_place (node_at g key)) ≡ true

-- the first n nodes stand in these cells
pub record AreNodeCells (b : Plan) (g : Nodes) (n : ℕ) (cells : List ℕ) : Type 0 where
  pub whole : length cells ≡ n
  pub each : (key : ℕ) (p : Pos) → key < n → node_place (node_at g key) ≡ Some p → get_or cells key 0 ≡ cell_of b p

-- each of the first n nodes has its key as its number
abbrev pub AreRanks : Plan → Nodes → ℕ → List ℕ → Type 0
AreRanks b g n cells = (key : ℕ) (p : Pos) → key < n → node_place (node_at g key) ≡ Some p → node_number b cells p ≡ key

-- these are the links into the node of a place, if there is one
abbrev pub AreLinks : Plan → List ℕ → Option Pos → List Link → Type 0
AreLinks b numbers None links = links ≡ []
AreLinks b numbers (Some p) links = links ≡ numbered_links b numbers p

-- these are the links into each of the first n nodes
abbrev pub AreLists : Plan → Nodes → List ℕ → ℕ → List (List Link) → Type 0
AreLists b g numbers n lists = (key : ℕ) → key < n → AreLinks b numbers (node_place (node_at g key)) (get_or lists key [])
