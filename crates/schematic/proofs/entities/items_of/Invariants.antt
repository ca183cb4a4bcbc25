use Rattle.std.proofs.Common.{◌≡◌, ◌++◌, drop, map, Some, All}
use Rattle.std.specs.List.{filter_map}
use Rattle.nbt.specs.Plain.{plain_tree}
use Rattle.item_table.specs.Strength.{IsSized}
use Rattle.schematic.specs.Fields.{fields_in}
use Rattle.schematic.specs.Entities.{item_of}
use Rattle.schematic.proofs.entities.items_of.Given as goal

abbrev pub invariant-loop-tree : goal.invariant-loop-tree
invariant-loop-tree l = record {
  items : l.items.items ++ filter_map (λ t. item_of (fields_in (Some t))) (map plain_tree (drop l.tree-index l.tree-items)) ≡ filter_map (λ t. item_of (fields_in (Some t))) (map plain_tree l.tree-items);
  sized : All IsSized l.items.items;
}
