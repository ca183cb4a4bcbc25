use Rattle.std.proofs.Common.{◌≡◌, ◌++◌, take}
use Rattle.std.specs.List.{flat_map}
use Rattle.block_table.specs.Facts.{opposite}
use Rattle.build.specs.Place.{beside, sides}
use Rattle.wiring.specs.Reads.{direct_of}
use Rattle.wiring.specs.Taps.{strong_taps}
use Rattle.wiring.proofs.taps.push_strong_sources.Given as goal

abbrev pub invariant-loop-side : goal.invariant-loop-side
invariant-loop-side l = l.sources.items ≡ l.fn.sources.items ++ flat_map (λ side. flat_map direct_of (strong_taps l.build (beside side l.pos) (opposite side))) (take l.side-index sides)
