use Rattle.item_table.specs.Stacks.{stacked_by_sixteen}
use Rattle.item_table.proofs.stacks_to_sixteen.Goals as goal

pub returns : goal.returns
unfolding stacked_by_sixteen
returns c = c.is_among.ensures
