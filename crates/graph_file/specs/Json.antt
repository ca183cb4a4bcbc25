-- A graph as JSON. The keys of each object stand in the order of their bytes.
use Rattle.std.specs.Prelude.{ℕ, suc, List, [], ◌∷◌, ◌++◌, map, Option, Some, None, codes, get_or}
use Rattle.serde_json.specs.Data.{Data, number, unsigned, boolean, string, array, object, Members, no_members, put}
use Rattle.serde_json.specs.Find.{of_integer}
use Rattle.serde_json.specs.View.{items_of}
use Rattle.serde_json.specs.Written.{compact_text}
use Rattle.circuit.specs.declared.Pos.{Pos}
use Rattle.graph.specs.declared.Group.{Group}
use Rattle.graph.specs.declared.Group.TheVariants.{Back, Side}
use Rattle.graph.specs.declared.Kind.{Kind}
use Rattle.graph.specs.declared.Kind.TheVariants.{Button, Repeater, Comparator}
use Rattle.graph.specs.declared.Link.{Link}
use Rattle.graph.specs.Graph.{Node, Nodes}
use Rattle.graph.specs.GraphText.{kind_text}

-- ---- renumbered from 0

-- a key that lives has the next number, and another one 0
abbrev pub own_number : ℕ → Option Node → ℕ
own_number next None = 0
own_number next (Some node) = next

abbrev pub number_after : ℕ → Option Node → ℕ
number_after next None = next
number_after next (Some node) = suc next

-- the number of each key among those that live, where the first of them has this number
abbrev pub numbers_from : ℕ → Nodes → List ℕ
numbers_from next [] = []
numbers_from next (entry ∷ g) = own_number next entry ∷ numbers_from (number_after next entry) g

abbrev pub number_of : Nodes → ℕ → ℕ
number_of g key = get_or (numbers_from 0 g) key 0

abbrev pub with_source : (ℕ → ℕ) → Link → Link
with_source renumber link = record link { from = renumber link.from }

abbrev pub with_sources : (ℕ → ℕ) → Node → Node
with_sources renumber node = record node { links = map (with_source renumber) node.links }

-- the nodes alone, where the keys have these numbers
abbrev pub packed_by : (ℕ → ℕ) → Nodes → Nodes
packed_by renumber [] = []
packed_by renumber (None ∷ g) = packed_by renumber g
packed_by renumber (Some node ∷ g) = Some (with_sources renumber node) ∷ packed_by renumber g

-- the graph with its nodes renumbered from 0 in rising order
abbrev pub packed : Nodes → Nodes
packed g = packed_by (number_of g) g

-- ---- values

abbrev pub count : ℕ → Data
count n = number (unsigned n)

abbrev pub list : List Data → Data
list ds = array (items_of ds)

abbrev pub place_data : Pos → Data
place_data p = list (number (of_integer p.x) ∷ number (of_integer p.y) ∷ number (of_integer p.z) ∷ [])

abbrev pub with_strength : List ℕ → Option ℕ → Members → Members
with_strength key None members = members
with_strength key (Some strength) members = put key (count strength) members

-- what a kind adds
abbrev pub with_detail : Kind → Members → Members
with_detail (Button delay) members = put (codes "delay") (count delay) members
with_detail (Repeater delay) members = put (codes "delay") (count delay) members
with_detail (Comparator subtract direct far) members = with_strength (codes "far") far (with_strength (codes "direct") direct (put (codes "subtract") (boolean subtract) members))
with_detail _ members = members

abbrev pub node_members : Node → Members
node_members node =
    put (codes "also") (list (map place_data node.also))
    (put (codes "at") (place_data node.pos)
    (put (codes "due") (count node.due)
    (put (codes "first") (boolean node.first)
    (put (codes "kind") (string (kind_text node.kind))
    (put (codes "priority") (count node.priority)
    (put (codes "state") (count node.state) no_members))))))

abbrev pub node_data : Node → Data
node_data node = object (with_detail node.kind (node_members node))

abbrev pub entries_data : Nodes → List Data
entries_data [] = []
entries_data (None ∷ g) = entries_data g
entries_data (Some node ∷ g) = node_data node ∷ entries_data g

abbrev pub group_number : Group → ℕ
group_number Back = 0
group_number Side = 1

abbrev pub link_data : ℕ → Link → Data
link_data to link = list (count link.from ∷ count to ∷ count (group_number link.group) ∷ count link.weight ∷ [])

abbrev pub links_at : ℕ → Option Node → List Data
links_at to None = []
links_at to (Some node) = map (link_data to) node.links

-- by target, and in the target's order, where these entries stand from this key on
abbrev pub links_data : ℕ → Nodes → List Data
links_data to [] = []
links_data to (entry ∷ g) = links_at to entry ++ links_data (suc to) g

abbrev pub whole_data : List Data → List Data → Data
whole_data links nodes = object (put (codes "links") (list links) (put (codes "nodes") (list nodes) (put (codes "redpile") (count 1) no_members)))

-- the nodes by rising key, and the links
abbrev pub json : Nodes → Data
json g = whole_data (links_data 0 g) (entries_data g)

-- the graph as one line
abbrev pub json_text : Nodes → List ℕ
json_text g = compact_text (json (packed g)) ++ codes "\n"
