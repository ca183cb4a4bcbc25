use Rattle.std.proofs.Common.{◌≡◌, ◌++◌, drop, map, Some}
use Rattle.std.specs.List.{filter_map}
use Rattle.nbt.specs.Plain.{plain_tree}
use Rattle.schematic.specs.Fields.{fields_in}
use Rattle.schematic.specs.Entities.{entity_of}
use Rattle.schematic.specs.Code.{plain_entities}
use Rattle.schematic.proofs.entities.entities_of.Given as goal

abbrev pub invariant-loop-item : goal.invariant-loop-item
invariant-loop-item l =
    plain_entities l.entities.items ++ filter_map (λ t. entity_of l.third (fields_in (Some t))) (map plain_tree (drop l.item-index l.item-items))
    ≡ filter_map (λ t. entity_of l.third (fields_in (Some t))) (map plain_tree l.item-items)
