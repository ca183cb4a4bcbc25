use Rattle.std.proofs.Common.{ap, ◌∙◌}
use Rattle.block_table.specs.WrittenText.{is_listed}
use Rattle.generator.proofs.Listed.{unit_listed}
use Rattle.generator.proofs.made.block_of_cell.Goals as goal

pub new-requires : goal.new-requires
new-requires c = record { listed = ap is_listed c.unit_block.ensures ∙ unit_listed _ _ _ }
