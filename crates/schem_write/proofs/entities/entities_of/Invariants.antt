use Rattle.build.proofs.FoundPlaces.{FoundBelow}
use Rattle.schem_write.specs.BlockEntities.{entity_at}
use Rattle.schem_write.specs.Code.{plain_list}
use Rattle.schem_write.proofs.entities.entities_of.Given as goal

abbrev pub invariant-loop-cell : goal.invariant-loop-cell
invariant-loop-cell l = FoundBelow (entity_at l.layout l.build) l.build (plain_list l.items.items) l.cell
