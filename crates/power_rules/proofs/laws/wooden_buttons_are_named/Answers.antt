use Rattle.std.proofs.Common.{refl}
use Rattle.block_table.specs.Table.{table, name_at}
use Rattle.power_rules.proofs.laws.wooden_buttons_are_named.Goals as goal

pub returns : goal.returns
unfolding table name_at
returns c = refl
