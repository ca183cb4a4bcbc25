use Rattle.std.proofs.Common.{◌≡◌}
use Rattle.generator.proofs.Levels.{build_by}
use Rattle.generator.proofs.made.make_build.Given as goal

abbrev pub invariant-loop-unit : goal.invariant-loop-unit
invariant-loop-unit l = l.build ≡ build_by l.n l.unit
