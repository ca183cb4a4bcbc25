use Rattle.std.proofs.Common.{slice_index_or, [], arith}
use Rattle.tick_queue.proofs.RingCalls.{ring-take, ring-slot_length}
use Rattle.tick_queue.proofs.ring_queue.RingQueueQueue.take.Goals as goal

pub take_at-requires : goal.take_at-requires
take_at-requires g c =
    let held = ring-slot_length c.args.self.now.time c.args.self.now.slots c.args.self.now.time c.args.priority c.slot_of-place.result c.slot_of-place.ensures (omega arith) (omega arith) c.requires in
    (omega arith, (omega (arith, c.slot_of-place.ensures), omega (arith, held, c.args.self.now.all_nodes, c.args.self.now.few)))

pub invariant_of-self : goal.invariant_of-self
invariant_of-self g c =
    let taken = ring-take c.args.self.now.time c.args.self.now.slots c.take_at.new.slots c.args.priority c.slot_of-place.result c.take_at.result (slice_index_or c.take_at.new.slots c.slot_of-place.result []) c.take_at.ensures.full c.slot_of-place.ensures c.requires c.take_at.ensures.keys c.take_at.ensures.none c.take_at.ensures.others in
    record { all_nodes = omega (arith, taken.2, c.args.self.now.all_nodes, c.take_at.ensures.spare); few = c.args.self.now.few; early = c.args.self.now.early }

pub returns-clause-first : goal.returns-clause-first
returns-clause-first g c =
    (ring-take c.args.self.now.time c.args.self.now.slots c.take_at.new.slots c.args.priority c.slot_of-place.result c.take_at.result (slice_index_or c.take_at.new.slots c.slot_of-place.result []) c.take_at.ensures.full c.slot_of-place.ensures c.requires c.take_at.ensures.keys c.take_at.ensures.none c.take_at.ensures.others).0

pub returns-clause-rest : goal.returns-clause-rest
returns-clause-rest g c =
    (ring-take c.args.self.now.time c.args.self.now.slots c.take_at.new.slots c.args.priority c.slot_of-place.result c.take_at.result (slice_index_or c.take_at.new.slots c.slot_of-place.result []) c.take_at.ensures.full c.slot_of-place.ensures c.requires c.take_at.ensures.keys c.take_at.ensures.none c.take_at.ensures.others).1
