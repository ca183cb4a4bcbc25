use Rattle.std.proofs.Common.{arith, to_z, of_z, w32, nat_abs}
use Rattle.std.proofs.lemmas.Int.{ints}
use Rattle.build.proofs.FoundCells.{placed_negative, placed_within, placed_beyond}
use Rattle.build.proofs.build.within.Goals as goal

pub returns-then-value-lt0 : goal.returns-then-value-lt0
returns-then-value-lt0 c = placed_negative c.args.limit c.args.coordinate.now (grind (arith, ints))

pub returns-then-number-limit : goal.returns-then-number-limit
returns-then-number-limit c = placed_within c.args.limit _ c.args.coordinate.now (grind (arith, ints)) (omega arith)

pub returns-else-number-limit : goal.returns-else-number-limit
returns-else-number-limit c = placed_beyond c.args.limit (nat_abs (to_z w32 (of_z w32 c.args.coordinate.now))) c.args.coordinate.now (grind (arith, ints)) (omega arith)
