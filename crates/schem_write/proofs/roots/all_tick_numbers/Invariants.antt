use Rattle.std.proofs.Common.{◌≡◌, take}
use Rattle.std.specs.List.{flat_map}
use Rattle.schem_write.specs.Written.{tick_numbers}
use Rattle.schem_write.proofs.roots.all_tick_numbers.Given as goal

abbrev pub invariant-loop-tick : goal.invariant-loop-tick
invariant-loop-tick l = l.items.items ≡ flat_map tick_numbers (take l.tick-index l.ticks)
