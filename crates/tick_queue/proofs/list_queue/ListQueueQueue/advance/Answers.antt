use Rattle.tick_queue.proofs.OrderSteps.{AllInTime-later}
use Rattle.tick_queue.proofs.list_queue.ListQueueQueue.advance.Goals as goal

pub invariant_of-self : goal.invariant_of-self
invariant_of-self g c = record { in_time = AllInTime-later _ _ c.requires.none_due c.args.self.now.in_time; in_order = c.args.self.now.in_order }
