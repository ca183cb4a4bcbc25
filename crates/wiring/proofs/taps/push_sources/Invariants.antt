use Rattle.std.proofs.Common.{◌≡◌, ◌++◌, false, take}
use Rattle.std.specs.List.{flat_map}
use Rattle.build.specs.Place.{sides}
use Rattle.wiring.specs.Reads.{direct_of}
use Rattle.wiring.specs.Taps.{back_taps}
use Rattle.wiring.proofs.taps.push_sources.Given as goal

abbrev pub invariant-loop-side : goal.invariant-loop-side
invariant-loop-side l = l.sources.items ≡ l.fn.sources.items ++ flat_map (λ side. flat_map direct_of (back_taps l.build false l.wire side)) (take l.side-index sides)
