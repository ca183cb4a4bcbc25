use Rattle.std.proofs.Common.{Some, ap, ◌∙◌}
use Rattle.tick_queue.proofs.TickSteps.{taken-Some, taken-None}
use Rattle.tick_queue.proofs.list_queue.take_first.Goals as goal

pub returns-in-Some-clause-first : goal.returns-in-Some-clause-first
returns-in-Some-clause-first g c =
    ap (λ t. Some t.key) c.remove.ensures.value ∙ (taken-Some c.args.due c.args.priority c.args.ticks.now.items c.in-Some.place c.remove.result (rw c.deref.ensures.value at c.in-Some.ensures)).0

pub returns-in-Some-clause-rest : goal.returns-in-Some-clause-rest
returns-in-Some-clause-rest g c =
    c.remove.ensures.items ∙ (taken-Some c.args.due c.args.priority c.args.ticks.now.items c.in-Some.place c.remove.result (rw c.deref.ensures.value at c.in-Some.ensures)).1

pub returns-in-None-clause-first : goal.returns-in-None-clause-first
returns-in-None-clause-first g c = (taken-None c.args.due c.args.priority c.args.ticks.now.items (rw c.deref.ensures.value at c.in-None.ensures)).0

pub returns-in-None-clause-rest : goal.returns-in-None-clause-rest
returns-in-None-clause-rest g c = (taken-None c.args.due c.args.priority c.args.ticks.now.items (rw c.deref.ensures.value at c.in-None.ensures)).1
