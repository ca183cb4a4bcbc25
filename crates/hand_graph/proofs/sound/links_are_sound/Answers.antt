-- One link more is sound.
use Rattle.std.proofs.Common.{refl, arith}
use Rattle.hand_graph.proofs.Alone.{links_next, link_read, within_links}
use Rattle.hand_graph.proofs.sound.links_are_sound.Goals as goal

pub loop-link-preserved : goal.loop-link-preserved
loop-link-preserved c = links_next c.args.graph.now.nodes c.args.links.now c.loop-link.link-index c.link-item.result c.loop-link.invariant
    (link_read c.args.links.now c.loop-link.link-index c.link-item.result c.loop-link-test.true c.link-item.is) c.if-link-gt15.false (c.if-not-lives.ensures refl)

pub returns : goal.returns
returns c = λ t index link e. c.loop-link.invariant index link (omega (arith, within_links c.args.links.now index link e, c.loop-link-test.false)) e
