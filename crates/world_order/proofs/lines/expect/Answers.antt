use Rattle.std.proofs.Common.{sym, ◌∙◌}
use Rattle.report.specs.declared.OrderKind.TheVariants.{Short, Differs}
use Rattle.world_order.specs.LineForms.{IsNotLine}
use Rattle.world_order.proofs.Expecting.{starts_from, starts_not, told_kind}
use Rattle.world_order.proofs.lines.expect.Goals as goal

pub returns-then-is_unended-clause-refused : goal.returns-then-is_unended-clause-refused
returns-then-is_unended-clause-refused c = told_kind (IsNotLine c.args.rest.now c.args.line.now) Short (sym c.is_unended.ensures ∙ c.if-is_unended.true)

pub returns-then-not-starts_with-clause-refused : goal.returns-then-not-starts_with-clause-refused
returns-then-not-starts_with-clause-refused c =
    told_kind (IsNotLine c.args.rest.now c.args.line.now) Differs
    (sym c.is_unended.ensures ∙ c.if-is_unended.false, starts_not c.args.line.now c.args.rest.now (sym c.starts_with.ensures.value ∙ c.if-not-starts_with.true))

pub returns-clause-ok : goal.returns-clause-ok
returns-clause-ok c = starts_from c.args.line.now c.args.rest.now (sym c.starts_with.ensures.value ∙ c.if-not-starts_with.false)
