use Rattle.std.proofs.Common.{◌≡◌, map, take}
use Rattle.wiring.specs.Wired.{row_of}
use Rattle.wiring.proofs.fill.rows_of.Given as goal

abbrev pub invariant-loop-number : goal.invariant-loop-number
invariant-loop-number l = l.rows ≡ map (row_of l.things l.kind) (take l.number l.things.spots)
