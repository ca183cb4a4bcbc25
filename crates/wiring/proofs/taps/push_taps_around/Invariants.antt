use Rattle.std.proofs.Common.{◌≡◌, ◌++◌, false, take}
use Rattle.std.specs.List.{flat_map}
use Rattle.build.specs.Place.{sides}
use Rattle.wiring.specs.Taps.{back_taps}
use Rattle.wiring.proofs.taps.push_taps_around.Given as goal

abbrev pub invariant-loop-side : goal.invariant-loop-side
invariant-loop-side l = l.taps.items ≡ l.fn.taps.items ++ flat_map (back_taps l.build false l.reader) (take l.side-index sides)
