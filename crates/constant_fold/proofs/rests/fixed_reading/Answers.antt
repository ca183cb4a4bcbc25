-- All links are counted.
use Rattle.graph.specs.Steps.{fixed}
use Rattle.graph.proofs.Shares.{reading-last}
use Rattle.constant_fold.proofs.rests.fixed_reading.Goals as goal

pub returns : goal.returns
returns c = reading-last (fixed c.args.graph.now.nodes) c.args.group c.args.links.now c.loop-link.link-index c.loop-link.most _ c.loop-link-test.false c.loop-link.invariant
