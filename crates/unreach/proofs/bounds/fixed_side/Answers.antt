-- One link more is counted.
use Rattle.graph.specs.declared.Group.TheVariants.{Side}
use Rattle.graph.specs.Steps.{fixed}
use Rattle.graph.proofs.Shares.{reading-last}
use Rattle.unreach.proofs.bounds.fixed_side.Goals as goal

pub returns : goal.returns
returns c = reading-last (fixed c.args.graph.now.nodes) Side c.args.links.now c.loop-link.link-index c.loop-link.most _ c.loop-link-test.false c.loop-link.invariant
