use Rattle.std.proofs.Common.{ℕ, ◌<◌, ◌^◌, ◌+◌, take, sym, subst, List, arith}
use Rattle.std.proofs.lemmas.List.{take_rest, length-take}
use Rattle.schematic.specs.Cells.{IsFirst}
use Rattle.schematic.proofs.Varints.{none_ends, too_long, first_ends, value_small}
use Rattle.schematic.proofs.cells.first_long_number.Goals as goal

pub returns-in_err-end-clause-none : goal.returns-in_err-end-clause-none
returns-in_err-end-clause-none c = λ none. none_ends c.args.cells.now c.in_err-end.ensures

pub returns-then-end-ge5-clause-none : goal.returns-then-end-ge5-clause-none
returns-then-end-ge5-clause-none c = λ none. too_long c.args.cells.now c.in_ok-end.end c.in_ok-end.ensures c.if-end-ge5.true

pub returns-clause-some : goal.returns-clause-some
returns-clause-some c =
    let cells = c.args.cells.now in
    let end = c.in_ok-end.end in
    subst (λ (behind : List ℕ). IsFirst cells c.value_of.result behind) (sym (take_rest cells (end + 1))) (first_ends cells end c.value_of.result c.in_ok-end.ensures c.if-end-ge5.false c.value_of.ensures)

pub returns-clause-small : goal.returns-clause-small
returns-clause-small c =
    let cells = c.args.cells.now in
    let end = c.in_ok-end.end in
    let P : ℕ → Type 0 = λ v. v < 2 ^ 35 in
    let low = c.if-end-ge5.false in
    subst P (sym c.value_of.ensures) (value_small (take (end + 1) cells) (omega (arith, length-take (end + 1) cells)))
