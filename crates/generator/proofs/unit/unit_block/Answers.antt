use Rattle.generator.specs.UnitCells.{unit_cells, unit_block}
use Rattle.generator.proofs.unit.unit_block.Goals as goal

pub returns : goal.returns
unfolding unit_cells unit_block
returns c = c.block_among.ensures
