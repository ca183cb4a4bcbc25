use Rattle.std.proofs.Common.{◌≡◌, ◌++◌, map}
use Rattle.tick_queue.specs.Nodes.{held}
use Rattle.tick_queue.proofs.slot.Slot.list_onto.Given as goal

abbrev pub invariant-loop-node : goal.invariant-loop-node
invariant-loop-node g l = l.all.items ++ map (λ key. record { due = l.due; priority = l.priority; key = key }) (held l.node-iterator) ≡ l.initial.all.items ++ map (λ key. record { due = l.due; priority = l.priority; key = key }) (held l.initial.node-iterator)
