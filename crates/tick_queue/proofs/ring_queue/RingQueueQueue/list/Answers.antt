use Rattle.std.proofs.Common.{◌≡◌, ◌*◌, ap, ◌∙◌, arith}
use Rattle.tick_queue.specs.Ring.{keys_at, ticks_of_ranks}
use Rattle.tick_queue.proofs.RingCalls.{ring-list, ring-listed}
use Rattle.tick_queue.proofs.ring_queue.RingQueueQueue.list.Goals as goal

pub loop-place-preserved : goal.loop-place-preserved
loop-place-preserved g c = ring-list c.args.self.now.time c.loop-place.place c.args.self.now.slots _ _ c.loop-place.invariant c.in_ok-list_at.ensures

pub returns : goal.returns
returns g c =
    let all : c.loop-place.place ≡ 64 = omega arith in
    c.loop-place.invariant ∙ ap (ticks_of_ranks (keys_at c.args.self.now.slots) (4 * c.args.self.now.time)) all ∙ ring-listed c.args.self.now.time c.args.self.now.slots
