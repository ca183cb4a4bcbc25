-- The text that is written of a graph is a file of the graph with its nodes renumbered.
use Rattle.std.proofs.Common.{◌≡◌, ℕ, suc, ◌+◌, ◌<◌, ◌≤◌, ◌^◌, List, [], ◌∷◌, ◌++◌, length, map, Some, None, IsUtf8, sym, subst, arith, inl, inr}
use Rattle.circuit.specs.Circuit.{Each}
use Rattle.serde_json.specs.Read.{read}
use Rattle.serde_json.specs.Written.{compact_text}
use Rattle.graph.specs.declared.Kind.{Kind}
use Rattle.graph.specs.declared.Kind.TheVariants.{Lever, Button, Plate, Weighted, Torch, Repeater, Comparator, Lamp, Trapdoor, Note, Wire, Constant}
use Rattle.graph.specs.declared.Link.{Link}
use Rattle.graph.specs.Graph.{Node, Nodes, node_count}
use Rattle.graph.specs.GraphCircuit.{role_of}
use Rattle.graph.specs.Sound.{top_of, IsKindInRange, IsSoundNode, IsSound, places_of}
use Rattle.graph_file.specs.FitsFile.{IsFilePlace, FitsFile}
use Rattle.graph_file.specs.GraphFile.{IsJson, IsGraphFile}
use Rattle.graph_file.specs.Json.{number_of, with_sources, packed, entries_data, link_data, links_data, json, json_text}
use Rattle.graph_file.proofs.ReadBack.{full, IsFileNode, IsLinkOf, nodes_by, packed_full, each_node, file_node_at, links_below, length_keys, length_nodes, each_append, each_as, each_map, read_back}
use Rattle.graph_file.proofs.TextBack.{IsText, IsSmallKind, IsTextNode, node_text, link_text, whole_text, text_back}

top_small : (kind : Kind) → top_of (role_of kind) ≤ 15
top_small Lever = omega arith
top_small (Button delay) = omega arith
top_small Plate = omega arith
top_small Weighted = omega arith
top_small Torch = omega arith
top_small (Repeater delay) = omega arith
top_small (Comparator subtract direct far) = omega arith
top_small Lamp = omega arith
top_small Trapdoor = omega arith
top_small Note = omega arith
top_small Wire = omega arith
top_small Constant = omega arith

small_kind : (kind : Kind) → IsKindInRange kind → IsSmallKind kind
small_kind Lever h = tt
small_kind (Button delay) (inl e) = omega arith
small_kind (Button delay) (inr e) = omega arith
small_kind Plate h = tt
small_kind Weighted h = tt
small_kind Torch h = tt
small_kind (Repeater delay) h = omega arith
small_kind (Comparator subtract None None) h = (tt, tt)
small_kind (Comparator subtract None (Some far)) h = (tt, omega arith)
small_kind (Comparator subtract (Some direct) None) h = (omega arith, tt)
small_kind (Comparator subtract (Some direct) (Some far)) h = (omega arith, omega arith)
small_kind Lamp h = tt
small_kind Trapdoor h = tt
small_kind Note h = tt
small_kind Wire h = tt
small_kind Constant h = tt

written_in_full : (g : Nodes) (node : Node) → IsSoundNode g node → IsFileNode node → IsTextNode node
written_in_full g node sound inside = record {
  place = inside.0;
  also = inside.1;
  kind = small_kind node.kind sound.kind;
  state = omega (arith, sound.state, top_small node.kind);
  due = omega (arith, sound.due);
  priority = omega (arith, sound.priority);
}

nodes_text : (ns : List Node) → Each IsTextNode ns → Each (IsText 3) (entries_data (full ns))
nodes_text [] e = tt
nodes_text (n ∷ ns) e = (node_text n e.0, nodes_text ns e.1)

links_text : (count to : ℕ) (ns : List Node) → to + length ns ≤ count → count < 2 ^ 32 → Each (λ (n : Node). Each (IsLinkOf count) n.links) ns → Each (IsText 3) (links_data to (full ns))
links_text count to [] few small e = tt
links_text count to (n ∷ ns) few small e =
    each_append (IsText 3) (map (link_data to) n.links) (links_data (suc to) (full ns))
    (each_map (IsText 3) (link_data to) n.links
    (each_as (IsLinkOf count) (λ (link : Link). IsText 3 (link_data to link)) n.links (λ link h. link_text to link (omega arith) (omega (arith, h.0), omega (arith, h.1))) e.0))
    (links_text count (suc to) ns (omega arith) small e.1)

-- The text of a sound graph of few nodes whose places have numbers in range is JSON of its value, however many links it has.
pub text_is_json : (g : Nodes) → IsSound g → node_count g < 4294967295 → Each IsFilePlace (places_of g) → IsJson (json_text g) (json (packed g))
text_is_json g sound few_nodes places = record { text = back.1; value = back.0 }
  where
    ns : List Node
    ns = nodes_by (number_of g) g

    is_full : packed g ≡ full ns
    is_full = packed_full (number_of g) g

    each_text : Each IsTextNode ns
    each_text = each_node IsTextNode (number_of g) g (λ k node e. again node (written_in_full g node (sound.each k node e) (file_node_at g places k node e)))
      where
        again : (node : Node) → IsTextNode node → IsTextNode (with_sources (number_of g) node)
        again node h = record { place = h.place; also = h.also; kind = h.kind; state = h.state; due = h.due; priority = h.priority }

    below : Each (λ (n : Node). Each (IsLinkOf (length ns)) n.links) ns
    below = each_node (λ (n : Node). Each (IsLinkOf (length ns)) n.links) (number_of g) g (λ k node e. links_below g (length ns) node (omega (arith, length_keys (number_of g) 0 g)) (sound.each k node e))

    nodes : Each (IsText 3) (entries_data (packed g))
    nodes = subst (λ (p : Nodes). Each (IsText 3) (entries_data p)) (sym is_full) (nodes_text ns each_text)

    links : Each (IsText 3) (links_data 0 (packed g))
    links = subst (λ (p : Nodes). Each (IsText 3) (links_data 0 p)) (sym is_full) (links_text (length ns) 0 ns (omega arith) (omega (arith, length_nodes (number_of g) g, few_nodes)) below)

    back : (read (compact_text (json (packed g)) ++ 10 ∷ []) ≡ Some (json (packed g))) × IsUtf8 (compact_text (json (packed g)) ++ 10 ∷ [])
    back = text_back (links_data 0 (packed g)) (entries_data (packed g)) (whole_text (links_data 0 (packed g)) (entries_data (packed g)) links nodes)

pub file_back : (g : Nodes) → FitsFile g → IsGraphFile (json_text g) (packed g)
file_back g fits = record {
  value = json (packed g);
  json = text_is_json g fits.sound fits.few_nodes fits.places;
  accepted = (read_back g fits).0;
  means = sym (read_back g fits).1;
}
