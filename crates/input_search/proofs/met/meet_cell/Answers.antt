use Rattle.std.proofs.Common.{◌<◌, not, length, sym, ap, ◌∙◌, arith}
use Rattle.input_search.proofs.MetCells.{has_met-at, met_one}
use Rattle.input_search.proofs.WireNumbers.{among-has, number-there, number-missed}
use Rattle.input_search.proofs.met.meet_cell.Goals as goal

pub meet-requires : goal.meet-requires
meet-requires c = omega (arith, (number-there c.args.listed.now c.args.cell c.in-Some.number (sym c.get.ensures.number ∙ c.in-Some.is)).0, c.requires.size)

pub unreachable-requires : goal.unreachable-requires
unreachable-requires c = number-missed c.args.listed.now c.args.cell (among-has c.args.listed.now c.args.cell c.requires.listed) (sym c.get.ensures.number ∙ c.in-None.is)

pub returns-clause-new : goal.returns-clause-new
returns-clause-new c = c.meet.ensures.new ∙ ap not (sym (has_met-at c.args.listed.now c.args.met.now c.args.cell c.in-Some.number (sym c.get.ensures.number ∙ c.in-Some.is)))

pub returns-clause-met : goal.returns-clause-met
returns-clause-met c =
    let inside : c.in-Some.number < length c.args.met.now = omega (arith, (number-there c.args.listed.now c.args.cell c.in-Some.number (sym c.get.ensures.number ∙ c.in-Some.is)).0, c.requires.size) in
    met_one c.args.listed.now c.args.met.now c.meet.new.self c.args.cell c.in-Some.number (sym c.get.ensures.number ∙ c.in-Some.is) inside c.meet.ensures.met
