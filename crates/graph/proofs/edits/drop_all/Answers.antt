-- One node more is dropped.
use Rattle.std.proofs.Common.{◌≡◌, ◌+◌, ◌∷◌, None, ◌∙◌, sym, ap, ap₂, drop, add-one}
use Rattle.std.specs.Prelude.{option_map}
use Rattle.std.proofs.Math.Seq.{drop-cons}
use Rattle.std.proofs.lemmas.List.{map-set}
use Rattle.graph.specs.Graph.{Nodes}
use Rattle.graph.specs.Stored.{plain, plain_nodes}
use Rattle.graph.specs.Edits.{drop_set}
use Rattle.graph.proofs.edits.drop_all.Goals as goal

pub loop-key-preserved : goal.loop-key-preserved
loop-key-preserved c =
    let next : drop c.loop-key.key-index c.args.keys.now ≡ c.key-item.result ∷ drop (c.loop-key.key-index + 1) c.args.keys.now =
    drop-cons c.args.keys.now c.loop-key.key-index c.key-item.result c.loop-key-test.true
    ∙ ap₂ (λ x xs. x ∷ xs) (sym c.key-item.is) (ap (λ n. drop n c.args.keys.now) (sym (add-one c.loop-key.key-index))) in
    ap (λ (g : Nodes). drop_set g (drop (c.loop-key.key-index + 1) c.args.keys.now))
    (ap plain_nodes c.remove.ensures.entries ∙ map-set (option_map plain) c.loop-key.nodes.entries c.key-item.result None)
    ∙ ap (drop_set (plain_nodes c.loop-key.nodes.entries)) (sym next) ∙ c.loop-key.invariant
