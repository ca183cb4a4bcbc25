use Rattle.std.proofs.Common.{◌≡◌, length}
use Rattle.tick_queue.proofs.ring_queue.make_nodes.Given as goal

abbrev pub invariant-loop : goal.invariant-loop
invariant-loop g l = length l.nodes ≡ l.counter
