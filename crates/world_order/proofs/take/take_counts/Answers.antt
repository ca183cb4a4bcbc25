use Rattle.std.proofs.Common.{refl, sym, ◌∙◌}
use Rattle.world_order.proofs.Ending.{counts_read, counts_none}
use Rattle.world_order.proofs.take.take_counts.Goals as goal

pub returns-else-is_unended-clause-ok : goal.returns-else-is_unended-clause-ok
returns-else-is_unended-clause-ok c = counts_read c.args.text.now c.args.front.now _ c.line_len.result c.requires (sym c.is_counts.ensures ∙ c.if-is_counts.true) c.line_len.ensures refl

pub returns-else-is_counts-clause-ok : goal.returns-else-is_counts-clause-ok
returns-else-is_counts-clause-ok c = counts_none c.args.text.now c.args.front.now c.requires (sym c.is_counts.ensures ∙ c.if-is_counts.false)
