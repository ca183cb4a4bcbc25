use Rattle.std.proofs.Common.{arith}
use Rattle.replay_engine.proofs.Storing.{ticks_more}
use Rattle.replay_engine.proofs.stored.put_ticks.Goals as goal

pub loop-index-preserved : goal.loop-index-preserved
loop-index-preserved c = ticks_more c.args.things.now c.pending-pending.result.now c.loop-index.index _ c.loop-index.cells c.put_tick.new.cells (omega arith) (omega arith) c.put_tick.ensures c.loop-index.invariant
