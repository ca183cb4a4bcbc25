use Rattle.std.proofs.Common.{◌≡◌, [], replicate}
use Rattle.number_rows.specs.Listed.{items_of}
use Rattle.number_rows.proofs.lists.Lists.new.Given as goal

abbrev pub invariant-loop-made : goal.invariant-loop-made
invariant-loop-made l = items_of l.lists.items ≡ replicate l._made []
