use Rattle.std.proofs.Common.{refl}
use Rattle.block_table.specs.Table.{table, number_of, kind_at}
use Rattle.block_table.specs.BlockText.{block_numbered, block_named, block_of}
use Rattle.generator.proofs.laws.solid_blocks_have_their_names.Goals as goal

pub returns : goal.returns
unfolding table number_of kind_at block_numbered block_named block_of
returns c = record { stone = refl; concrete = refl }
