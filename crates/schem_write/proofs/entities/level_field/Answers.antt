use Rattle.std.proofs.Common.{◌≤◌, ap, ◌∙◌, arith}
use Rattle.block_table.specs.Facts.{slots}
use Rattle.schem_write.proofs.Slots.{few_slots, few_items}
use Rattle.schem_write.proofs.entities.level_field.Goals as goal

pub stack_trees-requires : goal.stack_trees-requires
stack_trees-requires c =
    let few : c.slots.result ≤ 27 = omega (arith, c.slots.ensures ∙ ap slots c.in-Container.is, few_slots c.in-Container.name) in
    omega (arith, c.items_for.ensures, few_items c.slots.result c.args.level few c.requires.small)
