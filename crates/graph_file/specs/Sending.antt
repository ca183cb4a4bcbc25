-- How the value of a packed graph is put together. No public clause cites this module.
use Rattle.std.specs.Prelude.{ℕ, suc, List, [], ◌∷◌, ◌++◌, map, Option, Some, None}
use Rattle.serde_json.specs.Data.{Data}
use Rattle.graph.specs.declared.Link.{Link}
use Rattle.graph.specs.Graph.{Node, Nodes}
use Rattle.graph_file.specs.Json.{link_data, node_data, with_source}

abbrev pub entry_data : Option Node → List Data
entry_data None = []
entry_data (Some node) = node_data node ∷ []

-- a link from a key that has a number, to this number
abbrev pub sent_link : (ℕ → ℕ) → ℕ → Link → Data
sent_link renumber to link = link_data to (with_source renumber link)

abbrev pub sent_at : (ℕ → ℕ) → ℕ → Option Node → List Data
sent_at renumber to None = []
sent_at renumber to (Some node) = map (sent_link renumber to) node.links

-- where these entries stand from this key on
abbrev pub sent_links : (ℕ → ℕ) → ℕ → Nodes → List Data
sent_links renumber key [] = []
sent_links renumber key (entry ∷ g) = sent_at renumber (renumber key) entry ++ sent_links renumber (suc key) g
