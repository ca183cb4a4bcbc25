-- A graph's file: the graph that a value means, or the first cause for which it means none.
use Rattle.std.specs.Prelude.{◌≡◌, ℕ, suc, Bool, true, false, ◌||◌, ◌&&◌, ◌==◌, nat_le, nat_lt, ℤ, pos, int_lt, List, [], ◌∷◌, map, length, Option, Some, None, option_map, if◌then◌else◌, IsUtf8, ⊤}
use Rattle.std.specs.List.{filter_map, list_all}
use Rattle.graph.specs.Clicks.{is_same_place}
use Rattle.circuit.specs.declared.Pos.{Pos}
use Rattle.graph.specs.declared.Group.{Group}
use Rattle.graph.specs.declared.Group.TheVariants.{Back, Side}
use Rattle.graph.specs.declared.Kind.{Kind}
use Rattle.graph.specs.declared.Kind.TheVariants.{Button, Repeater, Comparator}
use Rattle.graph.specs.declared.Link.{Link}
use Rattle.graph.specs.Graph.{Node, Nodes}
use Rattle.graph.specs.GraphCircuit.{role_of}
use Rattle.graph.specs.Links.{in_groups}
use Rattle.graph.specs.Sound.{top_of, can_wait}
use Rattle.report.specs.declared.GraphKind.TheVariants.{Field, Range, Place, End}
use Rattle.report.specs.declared.GraphRefusal.{GraphRefusal}
use Rattle.report.specs.declared.GraphRefusal.TheVariants.{Json, Whole, Node as NodeAt, Link as LinkAt, NoMemory}
use Rattle.serde_json.specs.Data.{Data}
use Rattle.serde_json.specs.Read.{read}
use Rattle.graph_file.specs.declared.entries.LinkEntry.{LinkEntry}
use Rattle.graph_file.specs.Reading.{node_of, link_of, parts_of}

-- ---- ranges

abbrev pub is_coordinate : ℤ → Bool
is_coordinate n = int_lt n (pos 65536)

abbrev pub is_place : Pos → Bool
is_place place = is_coordinate place.x && (is_coordinate place.y && is_coordinate place.z)

abbrev pub is_strength : Option ℕ → Bool
is_strength None = true
is_strength (Some strength) = nat_le strength 15

abbrev pub is_kind : Kind → Bool
is_kind (Button delay) = delay == 10 || delay == 15
is_kind (Repeater delay) = nat_le 1 delay && nat_le delay 4
is_kind (Comparator subtract direct far) = is_strength direct && is_strength far
is_kind _ = true

-- only a kind that may wait has a pending tick, and only a pending tick has a priority
abbrev pub is_tick : Kind → ℕ → ℕ → Bool
is_tick kind due priority = (nat_le due 15 && nat_le priority 3) && (if due == 0 then priority == 0 else can_wait kind)

-- each number of the node is in its range
abbrev pub is_node : Node → Bool
is_node node = (is_place node.pos && list_all is_place node.also) && ((nat_le node.state (top_of (role_of node.kind)) && is_kind node.kind) && is_tick node.kind node.due node.priority)

-- ---- places

-- and this one
abbrev pub with_place : Pos → (Pos → Bool) → Pos → Bool
with_place place seen p = is_same_place p place || seen p

-- some of the places was seen before, or stands before in the list
abbrev pub is_repeated : (Pos → Bool) → List Pos → Bool
is_repeated seen [] = false
is_repeated seen (place ∷ places) = seen place || is_repeated (with_place place seen) places

abbrev pub with_places : List Pos → (Pos → Bool) → Pos → Bool
with_places [] seen = seen
with_places (place ∷ places) seen = with_places places (with_place place seen)

abbrev pub nowhere : Pos → Bool
nowhere p = false

-- ---- causes, in their order

abbrev pub or_later : Option GraphRefusal → Option GraphRefusal → Option GraphRefusal
or_later (Some refusal) later = Some refusal
or_later None later = later

abbrev pub node_cause : ℕ → (Pos → Bool) → Option Node → Option GraphRefusal
node_cause index seen None = Some (NodeAt index Field)
node_cause index seen (Some node) =
    if is_node node then (if is_repeated seen (node.pos ∷ node.also) then Some (NodeAt index Place) else None)
    else Some (NodeAt index Range)

abbrev pub seen_after : (Pos → Bool) → Option Node → Pos → Bool
seen_after seen None = seen
seen_after seen (Some node) = with_places (node.pos ∷ node.also) seen

-- of these nodes, counted from this index on, where these places were seen before
abbrev pub nodes_cause : ℕ → (Pos → Bool) → List Data → Option GraphRefusal
nodes_cause index seen [] = None
nodes_cause index seen (d ∷ ds) = or_later (node_cause index seen (node_of d)) (nodes_cause (suc index) (seen_after seen (node_of d)) ds)

abbrev pub link_cause : ℕ → ℕ → Option LinkEntry → Option GraphRefusal
link_cause index count None = Some (LinkAt index Field)
link_cause index count (Some link) =
    if nat_lt link.from count && nat_lt link.to count then (if nat_le link.group 1 && nat_le link.weight 15 then None else Some (LinkAt index Range))
    else Some (LinkAt index End)

-- of these links, counted from this index on, between so many nodes
abbrev pub links_cause : ℕ → ℕ → List Data → Option GraphRefusal
links_cause index count [] = None
links_cause index count (d ∷ ds) = or_later (link_cause index count (link_of d)) (links_cause (suc index) count ds)

abbrev pub parts_cause : Option (List Data × List Data) → Option GraphRefusal
parts_cause None = Some Whole
parts_cause (Some parts) = or_later (nodes_cause 0 nowhere parts.0) (links_cause 0 (length parts.0) parts.1)

-- the first cause for which the value means no graph
unfoldable pub cause_of : Data → Option GraphRefusal
cause_of d = parts_cause (parts_of d)

-- ---- the graph

abbrev pub group_of : ℕ → Group
group_of group = if group == 0 then Back else Side

abbrev pub plain_link : LinkEntry → Link
plain_link link = record { from = link.from; group = group_of link.group; weight = link.weight }

-- those that go to this node
abbrev pub links_to : ℕ → List LinkEntry → List Link
links_to key [] = []
links_to key (link ∷ links) = if link.to == key then plain_link link ∷ links_to key links else links_to key links

abbrev pub with_links : List Link → Node → Node
with_links links node = record node { links = in_groups links }

-- the nodes with the links into them, where they stand from this key on
abbrev pub linked : ℕ → List LinkEntry → Nodes → Nodes
linked key links [] = []
linked key links (entry ∷ entries) = option_map (with_links (links_to key links)) entry ∷ linked (suc key) links entries

abbrev pub graph_with : Option (List Data × List Data) → Nodes
graph_with None = []
graph_with (Some parts) = linked 0 (filter_map link_of parts.1) (map node_of parts.0)

-- The i-th node under the key i. Links into one node stand in the order of their list, Back before Side.
unfoldable pub graph_of : Data → Nodes
graph_of d = graph_with (parts_of d)

-- ---- bytes

-- the bytes are UTF-8, and JSON of the value
pub record IsJson (bytes : List ℕ) (d : Data) : Type 0 where
  pub text : IsUtf8 bytes
  pub value : read bytes ≡ Some d

-- the bytes are JSON of a value that means the graph
pub record IsGraphFile (bytes : List ℕ) (g : Nodes) : Type 0 where
  pub value : Data
  pub json : IsJson bytes value
  pub accepted : cause_of value ≡ None
  pub means : g ≡ graph_of value

-- What is refused is the first cause, and want of memory may come at any time.
abbrev pub Refuses : Option GraphRefusal → GraphRefusal → Type 0
Refuses cause Json = cause ≡ Some Json
Refuses cause Whole = cause ≡ Some Whole
Refuses cause (NodeAt index kind) = cause ≡ Some (NodeAt index kind)
Refuses cause (LinkAt index kind) = cause ≡ Some (LinkAt index kind)
Refuses cause NoMemory = ⊤

-- and of bytes, which may be no JSON
abbrev pub RefusesBytes : List ℕ → GraphRefusal → Type 0
RefusesBytes bytes Json = (d : Data) → IsJson bytes d → ⊥
RefusesBytes bytes Whole = (d : Data) × IsJson bytes d × (cause_of d ≡ Some Whole)
RefusesBytes bytes (NodeAt index kind) = (d : Data) × IsJson bytes d × (cause_of d ≡ Some (NodeAt index kind))
RefusesBytes bytes (LinkAt index kind) = (d : Data) × IsJson bytes d × (cause_of d ≡ Some (LinkAt index kind))
RefusesBytes bytes NoMemory = ⊤
