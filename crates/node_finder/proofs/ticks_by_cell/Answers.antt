use Rattle.std.proofs.Common.{arith}
use Rattle.node_finder.proofs.TickSteps.{ticks_more}
use Rattle.node_finder.proofs.ticks_by_cell.Goals as goal

pub loop-index-preserved : goal.loop-index-preserved
loop-index-preserved c = ticks_more c.args.build.now c.pending-pending.result.now c.loop-index.index _ c.loop-index.ticks c.add_tick.new.ticks (omega arith) (omega arith) c.in_ok-add_tick.ensures c.loop-index.invariant
