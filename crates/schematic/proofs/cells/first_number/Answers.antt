use Rattle.schematic.proofs.Varints.{one_byte}
use Rattle.schematic.proofs.cells.first_number.Goals as goal

pub returns-then-byte-lt128-clause-some : goal.returns-then-byte-lt128-clause-some
returns-then-byte-lt128-clause-some c = one_byte c.args.cells.now c.in_ok-byte.behind.now c.in_ok-byte.byte.now c.from.result c.in_ok-byte.ensures.cases.0 c.if-byte-lt128.true c.from.ensures
