use Rattle.std.proofs.Common.{◌≡◌, drop}
use Rattle.schematic.specs.Presence.{first_wrong}
use Rattle.schematic.proofs.presence.first_wrong.Given as goal

abbrev pub invariant-loop-check : goal.invariant-loop-check
invariant-loop-check l = first_wrong (drop l.check-index l.checks) ≡ first_wrong l.checks
