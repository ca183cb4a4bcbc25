use Rattle.wiring.specs.Wired.{Turns, ToldBelow}
use Rattle.wiring.proofs.turn.turn_rows.Given as goal

abbrev pub invariant-loop-number : goal.invariant-loop-number
invariant-loop-number l = Turns l.fn.lists l.lists (ToldBelow l.rows l.number)
