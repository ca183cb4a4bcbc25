use Rattle.std.proofs.Common.{◌≡◌, []}
use Rattle.generator.specs.Made.{clicks_on}
use Rattle.generator.proofs.made.make_script.Given as goal

abbrev pub invariant-loop-unit : goal.invariant-loop-unit
invariant-loop-unit l = l.script ≡ record { marks = []; acts = clicks_on l.unit }
