use Rattle.std.proofs.Common.{◌≡◌}
use Rattle.std.specs.Ordering.{int_cmp}
use Rattle.std.specs.BTreeMap.{get}
use Rattle.schematic.specs.Cells.{first_blocks}
use Rattle.schematic.proofs.cells.first_blocks.Given as goal

abbrev pub invariant-loop-number : goal.invariant-loop-number
invariant-loop-number l = l.first.items ≡ first_blocks (λ n. get int_cmp l.blocks n) l.number
