-- One node more is renamed.
use Rattle.std.proofs.Common.{◌<◌, None, ◌∙◌, sym, ap, ap₂, arith, set, length, add-one}
use Rattle.std.specs.Prelude.{option_map}
use Rattle.std.proofs.lemmas.List.{length-map}
use Rattle.graph.specs.Graph.{Nodes}
use Rattle.graph.specs.Stored.{plain, plain_nodes}
use Rattle.graph.specs.Edits.{renamed, change}
use Rattle.graph.proofs.Parts.{part, part-suc, get_or-part, part_all}
use Rattle.graph.proofs.edits.rename_in_all.Goals as goal

pub loop-number-preserved : goal.loop-number-preserved
loop-number-preserved c =
    let within : c.loop-number.number < length (plain_nodes c.args.nodes.now.entries) =
    omega (arith, length-map c.args.nodes.now.entries (option_map plain), c.made-number-end.ensures, c.loop-number-test.true) in
    c.rename_at.ensures ∙ ap₂ (λ (g : Nodes) key. change (renamed c.args.keep c.args.gone) g key) c.loop-number.invariant c.new.ensures
    ∙ ap (λ entry. set (part (option_map (renamed c.args.keep c.args.gone)) c.loop-number.number (plain_nodes c.args.nodes.now.entries)) c.loop-number.number (option_map (renamed c.args.keep c.args.gone) entry))
    (get_or-part (option_map (renamed c.args.keep c.args.gone)) c.loop-number.number (plain_nodes c.args.nodes.now.entries) None)
    ∙ part-suc (option_map (renamed c.args.keep c.args.gone)) c.loop-number.number (plain_nodes c.args.nodes.now.entries) None within
    ∙ ap (λ n. part (option_map (renamed c.args.keep c.args.gone)) n (plain_nodes c.args.nodes.now.entries)) (sym (add-one c.loop-number.number))

pub returns : goal.returns
returns c = c.loop-number.invariant ∙ part_all (option_map (renamed c.args.keep c.args.gone)) c.loop-number.number (plain_nodes c.args.nodes.now.entries)
    (omega (arith, length-map c.args.nodes.now.entries (option_map plain), c.made-number-end.ensures, c.loop-number-test.false))
