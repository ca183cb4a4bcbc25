use Rattle.wiring.specs.Things.{IsNumberedTo}
use Rattle.wiring.proofs.things.Things.new.Given as goal

abbrev pub invariant-loop-cell : goal.invariant-loop-cell
invariant-loop-cell l = IsNumberedTo l.build l.cell l.spots.items l.numbers
