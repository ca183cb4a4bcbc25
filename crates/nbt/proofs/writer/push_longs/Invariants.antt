use Rattle.std.proofs.Common.{◌≡◌, ◌++◌, take, length}
use Rattle.std.specs.Int.{w32, w64}
use Rattle.nbt.specs.Spelling.{unsigned, all_signed}
use Rattle.nbt.proofs.writer.push_longs.Given as goal

abbrev pub invariant-loop-number : goal.invariant-loop-number
invariant-loop-number l = l.out.items ≡ l.fn.out.items ++ (unsigned w32 (length l.numbers) ++ all_signed w64 (take l.number-index l.numbers))
