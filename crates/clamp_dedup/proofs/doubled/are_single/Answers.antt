-- One link more has none beside it.
use Rattle.std.proofs.Common.{sym, ◌∙◌}
use Rattle.clamp_dedup.proofs.DedupSteps.{single_next, single_all, link_read}
use Rattle.clamp_dedup.proofs.doubled.are_single.Goals as goal

pub loop-index-preserved : goal.loop-index-preserved
loop-index-preserved c = single_next c.args.links.now c.loop-index.index c.index-links-index.result c.loop-index.invariant
    (link_read c.args.links.now c.loop-index.index c.index-links-index.result c.loop-index-test.true c.index-links-index.is) (sym c.has_beside.ensures ∙ c.if-has_beside.false)

pub returns : goal.returns
returns c _ = single_all c.args.links.now c.loop-index.index c.loop-index.invariant c.loop-index-test.false
