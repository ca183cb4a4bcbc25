-- One node more is renamed.
use Rattle.std.proofs.Common.{◌≡◌, ◌+◌, ◌∷◌, ◌∙◌, sym, ap, ap₂, drop, add-one}
use Rattle.std.proofs.Math.Seq.{drop-cons}
use Rattle.std.proofs.lemmas.List.{drop_all}
use Rattle.graph.specs.Graph.{Nodes}
use Rattle.graph.specs.Stored.{plain_nodes}
use Rattle.graph.proofs.FanSteps.{renamed_in, renamed_among}
use Rattle.graph.proofs.edits.rename_among.Goals as goal

pub loop-key-preserved : goal.loop-key-preserved
loop-key-preserved c =
    let next : drop c.loop-key.key-index c.args.targets.now ≡ c.key-item.result ∷ drop (c.loop-key.key-index + 1) c.args.targets.now =
    drop-cons c.args.targets.now c.loop-key.key-index c.key-item.result c.loop-key-test.true
    ∙ ap₂ (λ x xs. x ∷ xs) (sym c.key-item.is) (ap (λ n. drop n c.args.targets.now) (sym (add-one c.loop-key.key-index))) in
    ap (λ (g : Nodes). renamed_in c.args.keep c.args.gone g (drop (c.loop-key.key-index + 1) c.args.targets.now)) c.rename_at.ensures
    ∙ ap (renamed_in c.args.keep c.args.gone (plain_nodes c.loop-key.nodes.entries)) (sym next) ∙ c.loop-key.invariant

pub returns : goal.returns
returns c =
    ap (renamed_in c.args.keep c.args.gone (plain_nodes c.loop-key.nodes.entries)) (sym (drop_all c.loop-key.key-index c.args.targets.now c.loop-key-test.false))
    ∙ c.loop-key.invariant ∙ renamed_among c.args.keep c.args.gone c.requires.differ (plain_nodes c.args.nodes.now.entries) c.args.targets.now c.requires.fan
