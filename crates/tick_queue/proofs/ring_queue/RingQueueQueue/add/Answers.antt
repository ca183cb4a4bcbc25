use Rattle.std.proofs.Common.{arith}
use Rattle.tick_queue.proofs.RingCalls.{ring-add, ring-slot_length}
use Rattle.tick_queue.proofs.ring_queue.RingQueueQueue.add.Goals as goal

pub put_at-requires : goal.put_at-requires
put_at-requires g c =
    let held = ring-slot_length c.args.self.now.time c.args.self.now.slots c.args.tick.due c.args.tick.priority c.slot_of-place.result c.slot_of-place.ensures (omega arith) (omega arith) (omega arith) in
    (omega arith, (omega (arith, c.slot_of-place.ensures), (c.requires.room, omega (arith, held, c.args.self.now.all_nodes, c.args.self.now.few))))

pub invariant_of-self : goal.invariant_of-self
invariant_of-self g c =
    let added = ring-add c.args.self.now.time c.args.self.now.slots c.put_at.new.slots c.args.tick c.slot_of-place.result c.put_at.ensures.full c.slot_of-place.ensures c.requires.later c.requires.soon c.requires.priority c.put_at.ensures.keys in
    record { all_nodes = omega (arith, added.1, c.args.self.now.all_nodes, c.put_at.ensures.spare); few = c.args.self.now.few; early = c.args.self.now.early }

pub returns-clause-put : goal.returns-clause-put
returns-clause-put g c =
    (ring-add c.args.self.now.time c.args.self.now.slots c.put_at.new.slots c.args.tick c.slot_of-place.result c.put_at.ensures.full c.slot_of-place.ensures c.requires.later c.requires.soon c.requires.priority c.put_at.ensures.keys).0
