use Rattle.schematic.proofs.Counting.{sized}
use Rattle.schematic.proofs.entities.item_with.Goals as goal

pub returns-clause-sized : goal.returns-clause-sized
returns-clause-sized c = rw c.stack_size.ensures (sized c.in_ok-name.name.now 0)
