use Rattle.std.proofs.Common.{length}
use Rattle.constant_fold.specs.Tended.{AllTended}
use Rattle.constant_fold.proofs.looks.next_ready.Given as goal

abbrev pub invariant-loop-wait : goal.invariant-loop-wait
invariant-loop-wait l = AllTended l.graph.nodes l.waits.work.items l.waits.lists.items

abbrev pub decreases-loop-wait : goal.decreases-loop-wait
decreases-loop-wait l = length l.waits.work.items
