use Rattle.std.proofs.Common.{◌≡◌, map, take}
use Rattle.world_engine.specs.Running.{value_of}
use Rattle.world_engine.proofs.valued.values_of.Given as goal

abbrev pub invariant-loop-cell : goal.invariant-loop-cell
invariant-loop-cell l = l.values.items ≡ map value_of (take l.cell-index l.cells)
