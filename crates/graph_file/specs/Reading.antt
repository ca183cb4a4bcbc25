-- What the values of a graph's file say, whatever their numbers.
use Rattle.std.specs.Prelude.{ℕ, Bool, false, List, [], ◌∷◌, Option, Some, None, option_map, option_and_then, unwrap_or, codes, pos, length, nat_lt, ◌==◌, ◌&&◌, if◌then◌else◌}
use Rattle.std.specs.Str.{bytes_eq}
use Rattle.serde_json.specs.Data.{Data, Items, no_items, item}
use Rattle.serde_json.specs.Find.{get, as_number, as_u64, as_bool, as_str, as_array}
use Rattle.circuit.specs.declared.Pos.{Pos}
use Rattle.graph.specs.declared.Kind.{Kind}
use Rattle.graph.specs.declared.Kind.TheVariants.{Lever, Button, Plate, Weighted, Torch, Repeater, Comparator, Lamp, Trapdoor, Note, Wire, Constant}
use Rattle.graph.specs.Graph.{Node}
use Rattle.graph_file.specs.declared.entries.LinkEntry.{LinkEntry}

-- ---- values and members

-- the values of an array
abbrev pub list_of : Items → List Data
list_of no_items = []
list_of (item d ds) = d ∷ list_of ds

abbrev pub as_list : Data → Option (List Data)
as_list d = option_map list_of (as_array d)

-- a number is an integer from 0 on
abbrev pub as_count : Data → Option ℕ
as_count d = option_and_then as_u64 (as_number d)

abbrev pub number_in : List ℕ → Data → Option ℕ
number_in key d = option_and_then as_count (get key d)

abbrev pub list_in : List ℕ → Data → Option (List Data)
list_in key d = option_and_then as_list (get key d)

abbrev pub flag_in : List ℕ → Data → Option Bool
flag_in key d = option_and_then as_bool (get key d)

-- what is read of a value, where there is one
abbrev pub if_there : {A : Type 0} → (Data → Option A) → Option Data → Option (Option A)
if_there read None = Some None
if_there read (Some d) = option_map Some (read d)

abbrev pub optional_number : List ℕ → Data → Option (Option ℕ)
optional_number key d = if_there as_count (get key d)

-- ---- places

abbrev pub place_with : Option ℕ → Option ℕ → Option ℕ → Option Pos
place_with (Some x) (Some y) (Some z) = Some (record { x = pos x; y = pos y; z = pos z })
place_with _ _ _ = None

abbrev pub place_from : List Data → Option Pos
place_from (x ∷ y ∷ z ∷ []) = place_with (as_count x) (as_count y) (as_count z)
place_from _ = None

-- an array of three numbers
abbrev pub place_of : Data → Option Pos
place_of d = option_and_then place_from (as_list d)

abbrev pub place_before : Option Pos → Option (List Pos) → Option (List Pos)
place_before (Some place) (Some places) = Some (place ∷ places)
place_before _ _ = None

-- all of them
abbrev pub places_of : List Data → Option (List Pos)
places_of [] = Some []
places_of (d ∷ ds) = place_before (place_of d) (places_of ds)

-- ---- nodes

abbrev pub comparator_with : Option Bool → Option (Option ℕ) → Option (Option ℕ) → Option Kind
comparator_with (Some subtract) (Some direct) (Some far) = Some (Comparator subtract direct far)
comparator_with _ _ _ = None

-- the kind of this name, with what it adds
unfoldable pub kind_named : List ℕ → Data → Option Kind
kind_named name d =
    if bytes_eq name (codes "lever") then Some Lever
    else (if bytes_eq name (codes "button") then option_map Button (number_in (codes "delay") d)
    else (if bytes_eq name (codes "plate") then Some Plate
    else (if bytes_eq name (codes "weighted") then Some Weighted
    else (if bytes_eq name (codes "torch") then Some Torch
    else (if bytes_eq name (codes "repeater") then option_map Repeater (number_in (codes "delay") d)
    else (if bytes_eq name (codes "comparator") then comparator_with (flag_in (codes "subtract") d) (optional_number (codes "direct") d) (optional_number (codes "far") d)
    else (if bytes_eq name (codes "lamp") then Some Lamp
    else (if bytes_eq name (codes "trapdoor") then Some Trapdoor
    else (if bytes_eq name (codes "note") then Some Note
    else (if bytes_eq name (codes "wire") then Some Wire
    else (if bytes_eq name (codes "constant") then Some Constant
    else None)))))))))))

abbrev pub kind_of : Data → Option Kind
kind_of d = option_and_then (λ name. kind_named name d) (option_and_then as_str (get (codes "kind") d))

-- a number that may be absent is then 0, and a flag false
abbrev pub count_or_0 : List ℕ → Data → Option ℕ
count_or_0 key d = option_map (λ n. unwrap_or n 0) (optional_number key d)

abbrev pub first_of : Data → Option Bool
first_of d = option_map (λ flag. unwrap_or flag false) (if_there as_bool (get (codes "first") d))

-- further places, none where they are absent
abbrev pub also_in : Option Data → Option (List Pos)
also_in None = Some []
also_in (Some d) = option_and_then places_of (as_list d)

abbrev pub bare_with : Option Kind → Option Pos → Option ℕ → Option Bool → Option ℕ → Option ℕ → Option Node
bare_with (Some kind) (Some place) (Some state) (Some first) (Some due) (Some priority) =
    Some (record { pos = place; kind = kind; state = state; first = first; due = due; priority = priority; links = []; also = [] })
bare_with _ _ _ _ _ _ = None

-- a node without its further places
abbrev pub bare_of : Data → Option Node
bare_of d = bare_with (kind_of d) (option_and_then place_of (get (codes "at") d)) (number_in (codes "state") d) (first_of d) (count_or_0 (codes "due") d) (count_or_0 (codes "priority") d)

abbrev pub node_with : Option Node → Option (List Pos) → Option Node
node_with (Some node) (Some also) = Some (record node { also = also })
node_with _ _ = None

-- The node that a value says, without links. Where there is none, a field is absent or of another kind.
abbrev pub node_of : Data → Option Node
node_of d = node_with (bare_of d) (also_in (get (codes "also") d))

-- ---- links

abbrev pub link_with : Option ℕ → Option ℕ → Option ℕ → Option ℕ → Option LinkEntry
link_with (Some from) (Some to) (Some group) (Some weight) = Some (record { from = from; to = to; group = group; weight = weight })
link_with _ _ _ _ = None

abbrev pub link_from : List Data → Option LinkEntry
link_from (from ∷ to ∷ group ∷ weight ∷ []) = link_with (as_count from) (as_count to) (as_count group) (as_count weight)
link_from _ = None

-- an array of four numbers
abbrev pub link_of : Data → Option LinkEntry
link_of d = option_and_then link_from (as_list d)

-- ---- the whole

abbrev pub is_few : List Data → Bool
is_few ds = nat_lt (length ds) 4294967295

abbrev pub parts_with : Option ℕ → Option (List Data) → Option (List Data) → Option (List Data × List Data)
parts_with (Some version) (Some nodes) (Some links) = if version == 1 && (is_few nodes && is_few links) then Some (nodes, links) else None
parts_with _ _ _ = None

-- the values of the nodes and of the links
abbrev pub parts_of : Data → Option (List Data × List Data)
parts_of d = parts_with (number_in (codes "redpile") d) (list_in (codes "nodes") d) (list_in (codes "links") d)
