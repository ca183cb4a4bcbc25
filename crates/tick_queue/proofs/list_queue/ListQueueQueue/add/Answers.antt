use Rattle.std.proofs.Common.{arith}
use Rattle.tick_queue.specs.Ticks.{IsInTime}
use Rattle.tick_queue.proofs.OrderSteps.{AllInTime-put_in, IsInOrder-put_in}
use Rattle.tick_queue.proofs.list_queue.ListQueueQueue.add.Goals as goal

pub invariant_of-self : goal.invariant_of-self
invariant_of-self g c =
    let h : IsInTime c.args.self.now.time c.args.tick = (omega arith, omega arith, omega arith) in
    record { in_time = rw c.put.ensures.put (AllInTime-put_in _ _ _ h c.args.self.now.in_time); in_order = rw c.put.ensures.put (IsInOrder-put_in _ _ c.args.self.now.in_order) }
