-- What a value as a whole is refused for.
use Rattle.std.proofs.Common.{◌≡◌, ℕ, suc, Bool, true, false, List, [], ◌∷◌, length, map, Option, Some, None, Result, Ok, Err, refl, ap₂}
use Rattle.std.specs.Prelude.{option_map, ◌&&◌, IfErr, if◌then◌else◌, nat_le, nat_lt}
use Rattle.circuit.specs.declared.Pos.{Pos}
use Rattle.graph.specs.declared.Kind.{Kind}
use Rattle.graph.specs.Graph.{Node, Nodes}
use Rattle.report.specs.declared.GraphKind.TheVariants.{Range, End, Place}
use Rattle.report.specs.declared.GraphRefusal.{GraphRefusal}
use Rattle.report.specs.declared.GraphRefusal.TheVariants.{Json, Whole, Node as NodeAt, Link as LinkAt, NoMemory}
use Rattle.serde_json.specs.Data.{Data}
use Rattle.serde_json.specs.Find.{get}
use Rattle.std.specs.Prelude.{codes, option_and_then}
use Rattle.graph_file.specs.declared.entries.LinkEntry.{LinkEntry}
use Rattle.graph_file.specs.GraphFile.{is_node, is_repeated, or_later, node_cause, seen_after, nodes_cause, link_cause, links_cause, nowhere, parts_cause, cause_of, with_links, linked, IsJson, Refuses, RefusesBytes}
use Rattle.graph_file.specs.Reading.{bare_with, node_with, node_of, link_of, parts_of, kind_of, place_of, number_in, first_of, count_or_0, also_in}

-- ---- nodes that were read have no links

no_links : (kind : Option Kind) (place : Option Pos) (state : Option ℕ) (first : Option Bool) (due priority : Option ℕ) (also : Option (List Pos)) →
    option_map (with_links []) (node_with (bare_with kind place state first due priority) also) ≡ node_with (bare_with kind place state first due priority) also
no_links None place state first due priority also = refl
no_links (Some k) None state first due priority also = refl
no_links (Some k) (Some p) None first due priority also = refl
no_links (Some k) (Some p) (Some s) None due priority also = refl
no_links (Some k) (Some p) (Some s) (Some f) None priority also = refl
no_links (Some k) (Some p) (Some s) (Some f) (Some d) None also = refl
no_links (Some k) (Some p) (Some s) (Some f) (Some d) (Some r) None = refl
no_links (Some k) (Some p) (Some s) (Some f) (Some d) (Some r) (Some also) = refl

pub linked_bare : (key : ℕ) (ds : List Data) → linked key [] (map node_of ds) ≡ map node_of ds
linked_bare key [] = refl
linked_bare key (d ∷ ds) =
    ap₂ (λ (x : Option Node) (rest : Nodes). x ∷ rest)
    (no_links (kind_of d) (option_and_then place_of (get (codes "at") d)) (number_in (codes "state") d) (first_of d) (count_or_0 (codes "due") d) (count_or_0 (codes "priority") d) (also_in (get (codes "also") d)))
    (linked_bare (suc key) ds)

-- ---- no value is refused as no JSON

abbrev pub IsJsonCause : Option GraphRefusal → Type 0
IsJsonCause cause = cause ≡ Some Json

later_json : (cause later : Option GraphRefusal) → (IsJsonCause cause → ⊥) → (IsJsonCause later → ⊥) → IsJsonCause (or_later cause later) → ⊥
later_json None later a b h = b h
later_json (Some r) later a b h = a h

node_no_json : (index : ℕ) (seen : Pos → Bool) (node : Option Node) → IsJsonCause (node_cause index seen node) → ⊥
node_no_json index seen None h = cc
node_no_json index seen (Some node) h = by_tests (is_node node) (is_repeated seen (node.pos ∷ node.also)) h
  where
    by_tests : (a b : Bool) → (if a then (if b then Some (NodeAt index Place) else None) else Some (NodeAt index Range)) ≡ Some Json → ⊥
    by_tests true true h = cc
    by_tests true false h = cc
    by_tests false b h = cc

nodes_no_json : (index : ℕ) (seen : Pos → Bool) (ds : List Data) → IsJsonCause (nodes_cause index seen ds) → ⊥
nodes_no_json index seen [] h = cc
nodes_no_json index seen (d ∷ ds) h =
    later_json (node_cause index seen (node_of d)) (nodes_cause (suc index) (seen_after seen (node_of d)) ds) (node_no_json index seen (node_of d)) (nodes_no_json (suc index) (seen_after seen (node_of d)) ds) h

link_no_json : (index count : ℕ) (link : Option LinkEntry) → IsJsonCause (link_cause index count link) → ⊥
link_no_json index count None h = cc
link_no_json index count (Some link) h = by_tests (nat_lt link.from count && nat_lt link.to count) (nat_le link.group 1 && nat_le link.weight 15) h
  where
    by_tests : (a b : Bool) → (if a then (if b then None else Some (LinkAt index Range)) else Some (LinkAt index End)) ≡ Some Json → ⊥
    by_tests true true h = cc
    by_tests true false h = cc
    by_tests false b h = cc

links_no_json : (index count : ℕ) (ds : List Data) → IsJsonCause (links_cause index count ds) → ⊥
links_no_json index count [] h = cc
links_no_json index count (d ∷ ds) h = later_json (link_cause index count (link_of d)) (links_cause (suc index) count ds) (link_no_json index count (link_of d)) (links_no_json (suc index) count ds) h

parts_no_json : (parts : Option (List Data × List Data)) → IsJsonCause (parts_cause parts) → ⊥
parts_no_json None h = cc
parts_no_json (Some parts) h = later_json (nodes_cause 0 nowhere parts.0) (links_cause 0 (length parts.0) parts.1) (nodes_no_json 0 nowhere parts.0) (links_no_json 0 (length parts.0) parts.1) h

pub never_json : (d : Data) → cause_of d ≡ Some Json → ⊥
unfolding cause_of
never_json d h = parts_no_json (parts_of d) h

-- ---- bytes

of_bytes : (bytes : List ℕ) (d : Data) → IsJson bytes d → (r : GraphRefusal) → Refuses (cause_of d) r → RefusesBytes bytes r
of_bytes bytes d json Json h = absurd (never_json d h)
of_bytes bytes d json Whole h = (d, json, h)
of_bytes bytes d json (NodeAt index kind) h = (d, json, h)
of_bytes bytes d json (LinkAt index kind) h = (d, json, h)
of_bytes bytes d json NoMemory h = tt

pub refused_bytes : {A : Type 0} (bytes : List ℕ) (d : Data) → IsJson bytes d → (result : Result A GraphRefusal) → IfErr result (Refuses (cause_of d)) → IfErr result (RefusesBytes bytes)
refused_bytes bytes d json (Ok x) h = tt
refused_bytes bytes d json (Err r) h = of_bytes bytes d json r h
