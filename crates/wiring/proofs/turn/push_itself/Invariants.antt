use Rattle.wiring.specs.Wired.{Turns}
use Rattle.wiring.proofs.Turning.{IsItself}
use Rattle.wiring.proofs.turn.push_itself.Given as goal

abbrev pub invariant-loop-number : goal.invariant-loop-number
invariant-loop-number l = Turns l.fn.lists l.lists (IsItself l.number)
