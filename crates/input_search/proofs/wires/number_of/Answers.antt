-- A cell that the list has is found, with its index.
use Rattle.std.proofs.Common.{sym, ◌∙◌, arith}
use Rattle.input_search.proofs.WireNumbers.{among-has, number-there, number-missed}
use Rattle.input_search.proofs.wires.number_of.Goals as goal

pub overflow_cast-result : goal.overflow_cast-result
overflow_cast-result c =
    let found = number-there c.args.cells.now c.args.cell c.in-Some.number (sym c.get.ensures.number ∙ c.in-Some.is) in
    omega (arith, found.0, c.requires.few)

pub returns-clause-below : goal.returns-clause-below
returns-clause-below c = (number-there c.args.cells.now c.args.cell c.in-Some.number (sym c.get.ensures.number ∙ c.in-Some.is)).0

pub returns-clause-there : goal.returns-clause-there
returns-clause-there c = (number-there c.args.cells.now c.args.cell c.in-Some.number (sym c.get.ensures.number ∙ c.in-Some.is)).1

pub unreachable-requires : goal.unreachable-requires
unreachable-requires c = number-missed c.args.cells.now c.args.cell (among-has c.args.cells.now c.args.cell c.requires.listed) (sym c.get.ensures.number ∙ c.in-None.is)
