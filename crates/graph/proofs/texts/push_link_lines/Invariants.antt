use Rattle.std.proofs.Common.{◌≡◌, ◌++◌, drop}
use Rattle.graph.specs.Stored.{plain_nodes}
use Rattle.graph.specs.GraphText.{link_lines, texts_from}
use Rattle.graph.proofs.texts.push_link_lines.Given as goal

abbrev pub invariant-loop-number : goal.invariant-loop-number
invariant-loop-number l = l.text.items ++ texts_from link_lines l.number (drop l.number (plain_nodes l.nodes.entries)) ≡ l.initial.text.items ++ texts_from link_lines 0 (plain_nodes l.nodes.entries)
