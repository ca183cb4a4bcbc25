use Rattle.std.proofs.Common.{◌≡◌, ◌++◌, take}
use Rattle.wiring.specs.Wired.{numbers_of}
use Rattle.wiring.proofs.fill.push_places.Given as goal

abbrev pub invariant-loop-pos : goal.invariant-loop-pos
invariant-loop-pos l = l.row.items ≡ l.fn.row.items ++ numbers_of l.things (take l.pos-index l.places)
