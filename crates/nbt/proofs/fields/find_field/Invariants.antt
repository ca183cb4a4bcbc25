use Rattle.std.proofs.Common.{◌≡◌, ◌≤◌, drop, length, None}
use Rattle.nbt.specs.Plain.{plain_fields}
use Rattle.nbt.specs.Named.{last_named}
use Rattle.nbt.proofs.fields.find_field.Given as goal

abbrev pub invariant-loop-index : goal.invariant-loop-index
invariant-loop-index l = (l.index ≤ length l.fields.items) × (last_named l.name (plain_fields (drop l.index l.fields.items)) ≡ None)

abbrev pub decreases-loop-index : goal.decreases-loop-index
decreases-loop-index l = l.index
