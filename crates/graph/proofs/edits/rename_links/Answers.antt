-- One link more is renamed.
use Rattle.std.proofs.Common.{◌≡◌, ◌∙◌, sym, ap, ap₂, arith, set, get_or, add-one}
use Rattle.graph.specs.Edits.{renamed_link}
use Rattle.graph.proofs.Parts.{part, part-suc, get_or-part, part_all}
use Rattle.graph.proofs.edits.rename_links.Goals as goal

pub loop-link-preserved : goal.loop-link-preserved
loop-link-preserved c =
    let link : c.link-item.result ≡ get_or c.args.links.now c.loop-link.link-index c.link-item.result =
    c.link-item.is ∙ ap (λ links. get_or links c.loop-link.link-index c.link-item.result) c.loop-link.invariant
    ∙ get_or-part (renamed_link c.args.keep c.args.gone) c.loop-link.link-index c.args.links.now c.link-item.result in
    let new : c.renamed_link.result ≡ renamed_link c.args.keep c.args.gone (get_or c.args.links.now c.loop-link.link-index c.link-item.result) =
    c.renamed_link.ensures ∙ ap (renamed_link c.args.keep c.args.gone) (sym c.link-item.is ∙ link) in
    ap₂ (λ links x. set links c.loop-link.link-index x) c.loop-link.invariant new
    ∙ part-suc (renamed_link c.args.keep c.args.gone) c.loop-link.link-index c.args.links.now c.link-item.result c.loop-link-test.true
    ∙ ap (λ n. part (renamed_link c.args.keep c.args.gone) n c.args.links.now) (sym (add-one c.loop-link.link-index))

pub returns : goal.returns
returns c = c.loop-link.invariant ∙ part_all (renamed_link c.args.keep c.args.gone) c.loop-link.link-index c.args.links.now (omega arith)
