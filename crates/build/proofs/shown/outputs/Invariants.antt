use Rattle.build.specs.Outputs.{shown_at}
use Rattle.build.proofs.FoundPlaces.{FoundBelow}
use Rattle.build.proofs.shown.outputs.Given as goal

abbrev pub invariant-loop-cell : goal.invariant-loop-cell
invariant-loop-cell l = FoundBelow (shown_at l.build l.marks) l.build l.places.items l.cell
