use Rattle.std.proofs.Common.{◌≡◌}
use Rattle.handover.specs.HeldByCell.{with_levels_to}
use Rattle.handover.proofs.given.give_levels.Given as goal

abbrev pub invariant-loop-cell : goal.invariant-loop-cell
invariant-loop-cell l = l.after ≡ with_levels_to l.build l.held l.cell
