use Rattle.std.proofs.Common.{◌≡◌, ◌++◌, [], ◌∷◌, take}
use Rattle.std.specs.List.{flat_map}
use Rattle.wiring.specs.Taps.{Tap}
use Rattle.wiring.specs.Reads.{tap_place}
use Rattle.wiring.specs.Wired.{numbers_of}
use Rattle.wiring.proofs.fill.push_taps.Given as goal

abbrev pub invariant-loop-tap : goal.invariant-loop-tap
invariant-loop-tap l = l.row.items ≡ l.fn.row.items ++ flat_map (λ (tap : Tap). numbers_of l.things (tap_place tap ∷ [])) (take l.tap-index l.taps)
