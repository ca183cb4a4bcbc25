use Rattle.std.proofs.Common.{◌≡◌, map, take}
use Rattle.wiring.specs.Parts.{part_at}
use Rattle.wiring.proofs.parts.parts_of.Given as goal

abbrev pub invariant-loop-number : goal.invariant-loop-number
invariant-loop-number l = l.parts.items ≡ map (part_at l.things.plan l.things.marks) (take l.number l.things.spots)
