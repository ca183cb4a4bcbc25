use Rattle.tick_queue.proofs.OrderSteps.{AllInTime-without, IsInOrder-without}
use Rattle.tick_queue.proofs.list_queue.ListQueueQueue.take.Goals as goal

pub invariant_of-self : goal.invariant_of-self
invariant_of-self g c =
    record { in_time = rw c.take_first.ensures.rest (AllInTime-without _ _ _ _ c.args.self.now.in_time); in_order = rw c.take_first.ensures.rest (IsInOrder-without _ _ _ c.args.self.now.in_order) }
