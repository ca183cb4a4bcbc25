use Rattle.world_order.specs.Reading.{IsBadEnd}
use Rattle.world_order.proofs.Ending.{end_wrong, end_more}
use Rattle.world_order.proofs.Pieces.{err_holds}
use Rattle.world_order.proofs.take.take_end.Goals as goal

pub returns-in_err-take_line-clause-refused : goal.returns-in_err-take_line-clause-refused
returns-in_err-take_line-clause-refused c =
    err_holds c.from_residual-in_err-take_line.result c.in_err-take_line.field-0.0 (IsBadEnd c.args.text.now c.args.front.now) c.from_residual-in_err-take_line.ensures.1
    (end_wrong c.args.text.now c.args.front.now c.take_counts.new.front c.in_err-take_line.field-0.0 c.requires c.in_ok-take_counts.ensures.ok c.in_err-take_line.ensures.refused)

pub returns-then-front-text-clause-refused : goal.returns-then-front-text-clause-refused
returns-then-front-text-clause-refused c =
    end_more c.args.text.now c.args.front.now c.take_counts.new.front c.take_line.new.front c.bad.result c.in_ok-take_counts.ensures.ok c.in_ok-take_line.ensures.ok c.if-front-text.true c.bad.ensures
