use Rattle.std.proofs.Common.{◌≡◌, ◌*◌}
use Rattle.tick_queue.specs.Ring.{keys_at, ticks_of_ranks}
use Rattle.tick_queue.proofs.ring_queue.RingQueueQueue.list.Given as goal

abbrev pub invariant-loop-place : goal.invariant-loop-place
invariant-loop-place g l = l.all.items ≡ ticks_of_ranks (keys_at l.self.slots) (4 * l.self.time) l.place
