use Rattle.wiring.specs.Wired.{Turns, ToldOf}
use Rattle.wiring.proofs.turn.turn_row.Given as goal

abbrev pub invariant-loop-tap : goal.invariant-loop-tap
invariant-loop-tap l = Turns l.fn.lists l.lists (ToldOf l.reader l.row l.tap-index)
