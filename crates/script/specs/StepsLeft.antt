-- The steps that an iterator over a script has left.
use Rattle.std.specs.Prelude.{List}
use Rattle.circuit.specs.declared.Step.{Step}
use Rattle.circuit.specs.Shows.{ticks, steps_of}
use Rattle.script.specs.declared.play.ScriptSteps.{ScriptSteps}

-- the ticks that it is in, and then the steps of the acts
abbrev pub steps_left : ScriptSteps → List Step
steps_left it = ticks it.ticks (steps_of it.acts.now)
