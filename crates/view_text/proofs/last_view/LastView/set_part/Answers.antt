use Rattle.std.proofs.Common.{sym, ◌∙◌}
use Rattle.view_text.proofs.Comparing.{alike_up_to}
use Rattle.view_text.proofs.last_view.LastView.set_part.Goals as goal

pub returns-else-ne-clause-before : goal.returns-else-ne-clause-before
returns-else-ne-clause-before c =
    alike_up_to c.args.self.now c.args.values.now c.deref.result.now c.args.from c.args.end c.ne.result c.requires.order c.requires.before (c.deref.ensures.value ∙ c.self.view_is) c.ne.ensures c.if-ne.false
