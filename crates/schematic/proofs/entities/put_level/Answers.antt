use Rattle.block_table.proofs.SlotSteps.{listed_slots}
use Rattle.schematic.proofs.Levels.{strength_small}
use Rattle.schematic.proofs.entities.put_level.Goals as goal

pub strength-requires-clause-slots : goal.strength-requires-clause-slots
strength-requires-clause-slots c = rw c.slots-slots.ensures (listed_slots c.in-Container.name c.in-Container.ensures.listed)

pub set_strength-requires-clause-small : goal.set_strength-requires-clause-small
set_strength-requires-clause-small c = rw c.strength.ensures (strength_small c.slots-slots.result _)
