use Rattle.item_table.specs.Stacks.{unstacked}
use Rattle.item_table.proofs.stacks_to_one.Goals as goal

pub returns : goal.returns
unfolding unstacked
returns c = c.is_among.ensures
