-- The last node is taken out and looked at.
use Rattle.constant_fold.proofs.TendSteps.{tended_popped}
use Rattle.constant_fold.proofs.looks.next_ready.Goals as goal

pub look_at-requires-clause-tended : goal.look_at-requires-clause-tended
look_at-requires-clause-tended c = (tended_popped c.args.graph.now.nodes c.loop-wait.waits.work.items c.pop.new.self.items c.in-Some.wait c.loop-wait.waits.lists.items c.loop-wait.invariant c.in-Some.ensures.items).0

pub look_at-requires-clause-passed : goal.look_at-requires-clause-passed
look_at-requires-clause-passed c = (tended_popped c.args.graph.now.nodes c.loop-wait.waits.work.items c.pop.new.self.items c.in-Some.wait c.loop-wait.waits.lists.items c.loop-wait.invariant c.in-Some.ensures.items).1
