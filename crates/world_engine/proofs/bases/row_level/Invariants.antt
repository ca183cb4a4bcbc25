use Rattle.std.proofs.Common.{◌≡◌, take}
use Rattle.wiring.specs.Wired.{row_level}
use Rattle.world_engine.proofs.bases.row_level.Given as goal

abbrev pub invariant-loop-number : goal.invariant-loop-number
invariant-loop-number l = l.level ≡ row_level l.levels (take l.number-index l.row)
