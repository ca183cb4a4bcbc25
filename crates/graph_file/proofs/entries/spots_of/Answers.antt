use Rattle.std.proofs.Common.{add-one}
use Rattle.graph_file.proofs.SpotSteps.{spots_more, spots_none}
use Rattle.graph_file.proofs.entries.spots_of.Goals as goal

pub returns-in_default : goal.returns-in_default
returns-in_default c = spots_none c.args.list.now c.loop-value.value-index c.value-item.result c.loop-value.spots.items c.loop-value-test.true c.value-item.is c.in_default.ensures c.loop-value.invariant

pub loop-value-preserved : goal.loop-value-preserved
loop-value-preserved c =
    spots_more c.args.list.now c.loop-value.value-index _ c.value-item.result c.loop-value.spots.items c.push.new.self.items c.in-Some.spot (add-one c.loop-value.value-index) c.loop-value-test.true c.value-item.is c.in-Some.ensures
    c.in_ok-push.ensures.items c.loop-value.invariant
