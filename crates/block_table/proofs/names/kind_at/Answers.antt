use Rattle.block_table.specs.Table.{table, kind_at}
use Rattle.block_table.proofs.names.kind_at.Goals as goal

pub returns : goal.returns
unfolding table kind_at
returns c = c.kind_in.ensures
