use Rattle.schematic.proofs.Fives.{fives-more}
use Rattle.schematic.proofs.pending.first_group.Goals as goal

pub returns-else-numbers-lt5-clause-groups : goal.returns-else-numbers-lt5-clause-groups
returns-else-numbers-lt5-clause-groups c =
    rw (c.split_at.ensures.front, c.split_at.ensures.back) (fives-more c.args.numbers.now c.if-numbers-lt5.false)
