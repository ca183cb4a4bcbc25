use Rattle.std.proofs.Common.{length, ap, arith}
use Rattle.tick_queue.proofs.RingCalls.{ring-empty}
use Rattle.tick_queue.proofs.ring_queue.RingQueue.new.Goals as goal

pub invariant_of-result : goal.invariant_of-result
invariant_of-result g c =
    let ticks = ap length (ring-empty 0 c.empty_slots.result c.empty_slots.ensures) in
    let nodes = ap length c.new.ensures in
    record { all_nodes = omega (arith, ticks, nodes); few = omega arith; early = omega arith }

pub returns-clause-no_tick : goal.returns-clause-no_tick
returns-clause-no_tick g c = ring-empty 0 c.empty_slots.result c.empty_slots.ensures
