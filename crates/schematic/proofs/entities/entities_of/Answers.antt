use Rattle.std.proofs.Common.{Some, map, sym, ap, ◌∙◌, arith}
use Rattle.std.specs.Prelude.{codes}
use Rattle.std.specs.List.{filter_map}
use Rattle.nbt.specs.Plain.{plain_tree, plain_fields}
use Rattle.nbt.specs.Named.{last_named}
use Rattle.schematic.specs.Fields.{fields_in, holder}
use Rattle.schematic.specs.Entities.{entity_of, entities_of, items_in}
use Rattle.schematic.specs.Code.{plain_entities}
use Rattle.schematic.proofs.Counting.{trees_back, all_kept}
use Rattle.schematic.proofs.entities.entities_of.Goals as goal

pub returns : goal.returns
unfolding entities_of
returns c =
    let trees = c.items_in-item-items.result.now in
    let all = c.loop-item-test.false in
    all_kept plain_tree (λ t. entity_of c.is_third-third.result (fields_in (Some t))) (plain_entities c.loop-item.entities.items) _ trees c.loop-item.item-index (omega arith) c.loop-item.invariant
    ∙ ap (filter_map (λ t. entity_of c.is_third-third.result (fields_in (Some t)))) (sym (trees_back (map plain_tree trees)) ∙ c.items_in-item-items.ensures
    ∙ ap items_in (c.named.ensures ∙ ap (last_named (codes "BlockEntities")) c.holder.ensures))
    ∙ ap (λ third. filter_map (λ t. entity_of third (fields_in (Some t))) (items_in (last_named (codes "BlockEntities") (holder (plain_fields c.args.root.now.items))))) c.is_third-third.ensures
