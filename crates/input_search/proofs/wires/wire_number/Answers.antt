use Rattle.std.proofs.Common.{◌≡◌, ℕ, List, Some, None, sym, ap, ◌∙◌, arith}
use Rattle.std.specs.Prelude.{Option}
use Rattle.std.specs.Option.{option_map_or}
use Rattle.build.specs.Plan.{cell_of}
use Rattle.build.specs.Places.{found-cell_of, found_inside}
use Rattle.cell_numbers.specs.Numbers.{number_in}
use Rattle.wire_shape.specs.WirePlaces.{wire_inside}
use Rattle.input_search.specs.CellLists.{has_cell}
use Rattle.input_search.specs.Wiring.{wire_place, wire_number}
use Rattle.input_search.proofs.WireNumbers.{cells-few, wire-listed, number-place}
use Rattle.input_search.proofs.wires.wire_number.Goals as goal

none-some : (x : ℕ) → ◌≡◌ {A = Option ℕ} None (Some x) → ⊥
none-some x e = cc

pub number_of-requires-clause-few : goal.number_of-requires-clause-few
number_of-requires-clause-few c = omega (arith, cells-few c.args.build.now c.args.cells.now c.requires.wires, c.cells-cells.ensures.count, c.cells-cells.ensures.small)

pub number_of-requires-clause-listed : goal.number_of-requires-clause-listed
number_of-requires-clause-listed c =
    ap (has_cell c.args.cells.now) (found-cell_of c.args.build.now c.args.pos c.in-Some.cell c.in-Some.ensures.found)
    ∙ wire-listed c.args.build.now c.args.cells.now c.requires.wires c.args.pos c.requires.wire

pub unreachable-requires : goal.unreachable-requires
unreachable-requires c =
    none-some (cell_of c.args.build.now c.args.pos) (c.in-None.ensures.found ∙ found_inside c.args.build.now c.args.pos (wire_inside c.args.build.now c.args.pos c.requires.wire))

pub returns-clause-number : goal.returns-clause-number
unfolding wire_number
returns-clause-number c =
    c.number_of.ensures.number
    ∙ (λ j. option_map_or (λ (n : ℕ). n) (number_in (c.requires.wires j) (found-cell_of c.args.build.now c.args.pos c.in-Some.cell c.in-Some.ensures.found j)) 0)

pub returns-clause-place : goal.returns-clause-place
returns-clause-place c =
    ap (λ (cells : List ℕ). wire_place c.args.build.now cells c.number_of.result) (sym c.requires.wires)
    ∙ number-place c.args.build.now c.args.cells.now c.requires.wires c.args.pos c.number_of.result c.requires.wire
    (c.number_of.ensures.there ∙ found-cell_of c.args.build.now c.args.pos c.in-Some.cell c.in-Some.ensures.found)
