use Rattle.std.proofs.Common.{◌≡◌, ◌*◌, ◌-◌, ◌++◌, length}
use Rattle.std.specs.Prelude.{FitsSigned}
use Rattle.std.specs.List.{AllByRecursion}
use Rattle.std.specs.Int.{w32}
use Rattle.nbt.specs.Spelling.{all_signed}
use Rattle.nbt.proofs.leaves.ints_of.Given as goal

abbrev pub invariant-loop : goal.invariant-loop
invariant-loop l = (all_signed w32 l.items.items ++ l.rest ≡ l.fn.bytes) × (length l.rest ≡ (l.count - l.counter) * 4)
    × AllByRecursion (FitsSigned w32) l.items.items × (length l.items.items ≡ l.counter)
