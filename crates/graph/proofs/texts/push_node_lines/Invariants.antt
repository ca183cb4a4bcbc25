use Rattle.std.proofs.Common.{◌≡◌, ◌++◌, drop}
use Rattle.graph.specs.Stored.{plain_nodes}
use Rattle.graph.specs.GraphText.{node_line, texts_from}
use Rattle.graph.proofs.texts.push_node_lines.Given as goal

abbrev pub invariant-loop-number : goal.invariant-loop-number
invariant-loop-number l = l.text.items ++ texts_from node_line l.number (drop l.number (plain_nodes l.nodes.entries)) ≡ l.initial.text.items ++ texts_from node_line 0 (plain_nodes l.nodes.entries)
