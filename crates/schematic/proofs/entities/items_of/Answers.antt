use Rattle.std.proofs.Common.{Some, map, sym, ap, ◌∙◌, arith}
use Rattle.std.specs.List.{filter_map}
use Rattle.nbt.specs.Plain.{plain_tree}
use Rattle.schematic.specs.Fields.{fields_in}
use Rattle.schematic.specs.Entities.{item_of, items_of, items_in}
use Rattle.schematic.proofs.Counting.{trees_back, all_kept}
use Rattle.schematic.proofs.entities.items_of.Goals as goal

pub returns-clause-value : goal.returns-clause-value
unfolding items_of
returns-clause-value c =
    let trees = c.items_in-tree-items.result.now in
    let all = c.loop-tree-test.false in
    all_kept plain_tree (λ t. item_of (fields_in (Some t))) c.loop-tree.items.items _ trees c.loop-tree.tree-index (omega arith) c.loop-tree.invariant.items
    ∙ ap (filter_map (λ t. item_of (fields_in (Some t)))) (sym (trees_back (map plain_tree trees)) ∙ c.items_in-tree-items.ensures ∙ ap items_in c.named.ensures)
