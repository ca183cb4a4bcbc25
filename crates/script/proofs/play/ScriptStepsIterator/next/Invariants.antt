use Rattle.std.proofs.Common.{◌≡◌, length}
use Rattle.script.specs.StepsLeft.{steps_left}
use Rattle.script.proofs.play.ScriptStepsIterator.next.Given as goal

abbrev pub invariant-loop-self : goal.invariant-loop-self
invariant-loop-self l = steps_left l.self ≡ steps_left l.initial.self

abbrev pub decreases-loop-self : goal.decreases-loop-self
decreases-loop-self l = length l.self.acts.now
