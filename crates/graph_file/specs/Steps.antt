-- What each step of the reader has done. No public clause cites this module.
use Rattle.std.specs.Prelude.{ℕ, Bool, List, Option, Some, None, if◌then◌else◌}
use Rattle.std.specs.List.{list_any}
use Rattle.circuit.specs.declared.Pos.{Pos}
use Rattle.graph.specs.Clicks.{is_same_place}
use Rattle.graph.specs.Edits.{add_link}
use Rattle.graph.specs.Graph.{Node, Nodes}
use Rattle.report.specs.declared.GraphKind.TheVariants.{Field, Range}
use Rattle.report.specs.declared.GraphRefusal.{GraphRefusal}
use Rattle.report.specs.declared.GraphRefusal.TheVariants.{Node as NodeAt}
use Rattle.graph_file.specs.declared.entries.LinkEntry.{LinkEntry}
use Rattle.graph_file.specs.GraphFile.{is_node, plain_link}

abbrev pub has_place : List Pos → Pos → Bool
has_place places p = list_any (is_same_place p) places

-- the cause for which a value alone means no node
abbrev pub read_cause : ℕ → Option Node → Option GraphRefusal
read_cause index None = Some (NodeAt index Field)
read_cause index (Some node) = if is_node node then None else Some (NodeAt index Range)

-- the graph with the link, if there is one
abbrev pub with_one : Option LinkEntry → Nodes → Nodes
with_one None g = g
with_one (Some link) g = add_link g link.to (plain_link link)
