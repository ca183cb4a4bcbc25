use Rattle.std.proofs.Common.{take}
use Rattle.input_search.specs.Rows.{Gathers}
use Rattle.input_search.proofs.met.gather_row.Given as goal

abbrev pub invariant-loop-number : goal.invariant-loop-number
invariant-loop-number l = Gathers (take l.number-index l.row) l.fn.met l.met l.fn.found.items l.found.items
