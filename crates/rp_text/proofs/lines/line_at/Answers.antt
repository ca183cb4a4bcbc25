use Rattle.std.proofs.Common.{arith, sym, ◌∙◌}
use Rattle.std.proofs.lemmas.List.{take_rest}
use Rattle.rp_text.proofs.LineSteps.{line_from-last, line_from-line_feed, lines-at_last, lines-line_feed}
use Rattle.rp_text.proofs.lines.line_at.Goals as goal

pub returns-in_default-clause-exact : goal.returns-in_default-clause-exact
returns-in_default-clause-exact c =
    let place = rw take_rest at c.line_feed_place.ensures in
    sym (line_from-last c.args.text.now c.args.from (sym place ∙ c.in_default.is))

pub returns-in_default-clause-lines : goal.returns-in_default-clause-lines
returns-in_default-clause-lines c =
    let place = rw take_rest at c.line_feed_place.ensures in
    lines-at_last c.args.text.now c.args.from (omega arith) (sym place ∙ c.in_default.is)

pub returns-clause-exact : goal.returns-clause-exact
returns-clause-exact c =
    let place = rw take_rest at c.line_feed_place.ensures in
    let kept = rw take_rest at c.without_carriage_return.ensures in
    sym (line_from-line_feed c.args.text.now c.args.from c.in-Some.length c.without_carriage_return.result.now (sym place ∙ c.in-Some.is) kept)

pub returns-clause-lines : goal.returns-clause-lines
returns-clause-lines c =
    let place = rw take_rest at c.line_feed_place.ensures in
    let kept = rw take_rest at c.without_carriage_return.ensures in
    lines-line_feed c.args.text.now c.args.from c.in-Some.length c.without_carriage_return.result.now (sym place ∙ c.in-Some.is) kept
