use Rattle.std.proofs.Common.{◌≡◌, ◌++◌, ◌∷◌}
use Rattle.nbt.specs.Spelling.{short_text}
use Rattle.nbt.specs.Faults.{beginning, IsBegun}
use Rattle.nbt.specs.Reading.{stack_of, work}
use Rattle.nbt.proofs.reader.read_fields.Given as goal

abbrev pub invariant-loop-outer : goal.invariant-loop-outer
invariant-loop-outer l = IsBegun (stack_of l.top l.outer.items)
    × (10 ∷ (short_text l.fn.name.items.items ++ l.fn.bytes) ≡ beginning (stack_of l.top l.outer.items) ++ l.rest)

abbrev pub decreases-loop-outer : goal.decreases-loop-outer
decreases-loop-outer l = work (stack_of l.top l.outer.items) l.rest
