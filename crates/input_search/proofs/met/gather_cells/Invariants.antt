use Rattle.std.proofs.Common.{take}
use Rattle.input_search.specs.Rows.{GathersCells}
use Rattle.input_search.proofs.met.gather_cells.Given as goal

abbrev pub invariant-loop-cell : goal.invariant-loop-cell
invariant-loop-cell l = GathersCells l.listed (take l.cell-index l.cells) l.fn.met l.met l.fn.found.items l.found.items
