-- Small graphs, as the tests make them, and whether they are sound.
use Rattle.std.specs.Prelude.{ℕ, Bool, true, false, not, ◌&&◌, ◌==◌, nat_le, List, [], ◌∷◌, Option, Some, None, map, is_some, if◌then◌else◌}
use Rattle.std.specs.List.{list_all}
use Rattle.circuit.specs.declared.Pos.{Pos}
use Rattle.graph.specs.declared.Kind.{Kind}
use Rattle.graph.specs.declared.Kind.TheVariants.{Button, Repeater, Comparator}
use Rattle.graph.specs.declared.Group.TheVariants.{Back}
use Rattle.graph.specs.declared.Link.{Link}
use Rattle.graph.specs.Graph.{Node, Nodes, node_at}
use Rattle.graph.specs.GraphCircuit.{role_of}
use Rattle.graph.specs.Edits.{add_link}
use Rattle.graph.specs.Sound.{top_of, places_of}
use Rattle.graph.specs.Clicks.{is_same_place}

-- place, kind and state
abbrev pub NodeRow : Type 0
NodeRow = Pos × Kind × ℕ

-- from, to, weight
abbrev pub LinkRow : Type 0
LinkRow = ℕ × ℕ × ℕ

abbrev pub sample_node : NodeRow → Option Node
sample_node row = Some (record { pos = row.0; kind = row.1; state = row.2; first = false; due = 0; priority = 0; links = []; also = [] })

-- a link whose ends are there
abbrev pub with_row : Nodes → LinkRow → Nodes
with_row g row =
    if is_some (node_at g row.0) && is_some (node_at g row.1) then add_link g row.1 (record { from = row.0; group = Back; weight = row.2 }) else g

abbrev pub linked : Nodes → List LinkRow → Nodes
linked g [] = g
linked g (row ∷ rows) = linked (with_row g row) rows

abbrev pub sample : List NodeRow → List LinkRow → Nodes
sample nodes links = linked (map sample_node nodes) links

-- the kind is in its range, and a comparator reads no strength
abbrev pub is_plain : Kind → Bool
is_plain (Button delay) = delay == 10
is_plain (Repeater delay) = nat_le 1 delay && nat_le delay 4
is_plain (Comparator subtract None None) = true
is_plain (Comparator subtract direct far) = false
is_plain kind = true

abbrev pub is_sound_link : Nodes → Link → Bool
is_sound_link g link = nat_le link.weight 15 && is_some (node_at g link.from)

abbrev pub is_sound_entry : Nodes → Option Node → Bool
is_sound_entry g None = true
is_sound_entry g (Some node) =
    (nat_le node.state (top_of (role_of node.kind)) && is_plain node.kind) && ((node.due == 0 && node.priority == 0) && list_all (is_sound_link g) node.links)

-- no place stands twice
abbrev pub are_apart : List Pos → Bool
are_apart [] = true
are_apart (place ∷ places) = list_all (λ other. not (is_same_place place other)) places && are_apart places

-- a graph without pending ticks, which is sound
abbrev pub is_sound : Nodes → Bool
is_sound g = list_all (is_sound_entry g) g && are_apart (places_of g)
