use Rattle.std.proofs.Common.{◌≡◌, drop}
use Rattle.schematic.specs.Entities.{signal_fault}
use Rattle.schematic.specs.Code.{plain_entities}
use Rattle.schematic.proofs.entities.signal_fault.Given as goal

abbrev pub invariant-loop-entity : goal.invariant-loop-entity
invariant-loop-entity l = signal_fault l.build (plain_entities (drop l.entity-index l.entities)) ≡ signal_fault l.build (plain_entities l.entities)
