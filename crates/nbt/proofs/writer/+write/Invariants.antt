use Rattle.std.proofs.Common.{◌≡◌, ◌+◌, ◌*◌, ◌++◌, length, drop}
use Rattle.nbt.specs.Plain.{plain_tree, plain_trees, plain_fields}
use Rattle.nbt.specs.Spelling.{payload, item_payloads, field_spellings}
use Rattle.nbt.specs.Writing.{IsLonger, ItemsCanStandSomewhere, FieldsCanStandSomewhere}
use Rattle.nbt.proofs.writer.+write.Given as goal

abbrev pub invariant-push_items-loop-item : goal.invariant-push_items-loop-item
invariant-push_items-loop-item l =
    (l.out.items ++ item_payloads (plain_trees (drop l.item-index l.item-items)) ≡ l.initial.out.items ++ item_payloads (plain_trees l.item-items))
    × ItemsCanStandSomewhere (plain_trees (drop l.item-index l.item-items)) × IsLonger l.initial.out.items l.out.items

abbrev pub invariant-push_fields-loop-field : goal.invariant-push_fields-loop-field
invariant-push_fields-loop-field l =
    (l.out.items ++ field_spellings (plain_fields (drop l.field-index l.field-items)) ≡ l.initial.out.items ++ field_spellings (plain_fields l.field-items))
    × FieldsCanStandSomewhere (plain_fields (drop l.field-index l.field-items)) × IsLonger l.initial.out.items l.out.items

abbrev pub decreases-push_payload : goal.decreases-push_payload
decreases-push_payload l = 2 * length (payload (plain_tree l.tree.now))

abbrev pub decreases-push_items : goal.decreases-push_items
decreases-push_items l = 2 * length (item_payloads (plain_trees l.items.now.items)) + 1

abbrev pub decreases-push_fields : goal.decreases-push_fields
decreases-push_fields l = 2 * length (field_spellings (plain_fields l.fields.now.items)) + 1
