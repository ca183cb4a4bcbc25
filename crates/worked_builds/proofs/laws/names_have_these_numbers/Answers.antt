use Rattle.std.proofs.Common.{refl}
use Rattle.block_table.specs.Table.{table, name_at}
use Rattle.worked_builds.proofs.laws.names_have_these_numbers.Goals as goal

pub returns : goal.returns
unfolding table name_at
returns c = record { stone = refl; glass = refl; barrel = refl; stone_button = refl; oak_button = refl; plate = refl }
