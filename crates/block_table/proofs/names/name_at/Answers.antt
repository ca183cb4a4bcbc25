use Rattle.block_table.specs.Table.{table, name_at}
use Rattle.block_table.proofs.names.name_at.Goals as goal

pub returns : goal.returns
unfolding table name_at
returns c = c.name_in.ensures
