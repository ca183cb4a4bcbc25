use Rattle.std.proofs.Common.{◌≡◌, ◌++◌, map, take}
use Rattle.input_search.specs.Wiring.{wire_number}
use Rattle.input_search.proofs.wires.push_feeder_numbers.Given as goal

abbrev pub invariant-loop-index : goal.invariant-loop-index
invariant-loop-index l = l.row.items ≡ l.fn.row.items ++ map (wire_number l.build) (take l.index l.feeders)
