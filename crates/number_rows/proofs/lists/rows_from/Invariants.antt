use Rattle.std.proofs.Common.{◌≡◌, take}
use Rattle.number_rows.proofs.lists.rows_from.Given as goal

abbrev pub invariant-loop-number : goal.invariant-loop-number
invariant-loop-number l = l.rows ≡ take l.number l.lists
