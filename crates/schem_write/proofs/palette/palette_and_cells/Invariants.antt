use Rattle.schem_write.specs.Code.{texts_of}
use Rattle.schem_write.specs.PaletteTexts.{AreNumbers}
use Rattle.schem_write.proofs.CellSteps.{Before}
use Rattle.schem_write.proofs.palette.palette_and_cells.Given as goal

abbrev pub invariant-loop-cell : goal.invariant-loop-cell
invariant-loop-cell l = record {
  before : Before l.build (texts_of l.palette.keys) l.cells.items l.cell;
  right : AreNumbers (texts_of l.palette.keys) l.numbers.items;
}
