use Rattle.wiring.specs.Things.{number_of}
use Rattle.wiring.proofs.Joined.{mapped_more}
use Rattle.wiring.proofs.fill.push_feeders.Goals as goal

pub loop-index-preserved : goal.loop-index-preserved
loop-index-preserved c =
    mapped_more (number_of c.args.things.now) c.feeders_of-feeders.result c.loop-index.index c.get.result c.args.row.now.items c.loop-index.row.items c.push_number.new.row.items
    c.get.ensures c.loop-index.invariant c.in_ok-push_number.ensures
