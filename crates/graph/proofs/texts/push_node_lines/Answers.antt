-- One node more is written.
use Rattle.std.proofs.Common.{◌<◌, ◌++◌, ◌∙◌, ap, arith, length}
use Rattle.std.specs.Prelude.{option_map}
use Rattle.std.proofs.lemmas.List.{length-map}
use Rattle.graph.specs.Stored.{plain, plain_nodes}
use Rattle.graph.specs.GraphText.{node_line, entry_text}
use Rattle.graph.proofs.NodeSteps.{entry_is}
use Rattle.graph.proofs.TextSteps.{texts_more}
use Rattle.graph.proofs.texts.push_node_lines.Goals as goal

pub loop-number-preserved : goal.loop-number-preserved
loop-number-preserved c =
    let within : c.loop-number.number < length (plain_nodes c.args.nodes.now.entries) =
    omega (arith, length-map c.args.nodes.now.entries (option_map plain), c.made-number-end.ensures, c.loop-number-test.true) in
    texts_more node_line (plain_nodes c.args.nodes.now.entries) c.loop-number.number c.loop-number.text.items _ c.push_node_at.new.text.items within c.loop-number.invariant
    (c.in_ok-push_node_at.ensures ∙ ap (λ entry. c.loop-number.text.items ++ entry_text node_line c.loop-number.number entry)
    (entry_is c.args.nodes.now.entries c.loop-number.number c.new.result _ c.get.ensures c.new.ensures))
