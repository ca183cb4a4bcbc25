use Rattle.std.proofs.Common.{◌≡◌, ◌++◌, take}
use Rattle.wiring.specs.Wired.{numbers_of}
use Rattle.wiring.proofs.fill.push_feeders.Given as goal

abbrev pub invariant-loop-index : goal.invariant-loop-index
invariant-loop-index l = l.row.items ≡ l.fn.row.items ++ numbers_of l.things (take l.index l.feeders)
