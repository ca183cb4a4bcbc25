use Rattle.std.proofs.Common.{◌+◌, length, ap, ◌∙◌, arith}
use Rattle.tick_queue.proofs.RingCalls.{ring-advance}
use Rattle.tick_queue.proofs.ring_queue.RingQueueQueue.advance.Goals as goal

pub invariant_of-self : goal.invariant_of-self
invariant_of-self g c =
    let same = ring-advance c.args.self.now.time c.args.self.now.slots c.requires.none_due in
    record { all_nodes = ap (λ ts. length ts + length c.args.self.now.spare) same ∙ c.args.self.now.all_nodes; few = c.args.self.now.few; early = omega arith }

pub returns-clause-same_ticks : goal.returns-clause-same_ticks
returns-clause-same_ticks g c = ring-advance c.args.self.now.time c.args.self.now.slots c.requires.none_due
