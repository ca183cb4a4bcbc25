-- Taps of which those of wires are at wires.
use Rattle.std.specs.Prelude.{◌≡◌, true}
use Rattle.build.specs.Plan.{Plan}
use Rattle.wire_shape.specs.Shape.{wire_at}
use Rattle.wiring.specs.declared.Tap.{Tap}
use Rattle.wiring.specs.declared.Tap.TheVariants.{Direct, Wired}

-- a tap of a wire is a wire
abbrev pub IsWireTap : Plan → Tap → Type 0
IsWireTap b (Direct p) = Unit {0}
IsWireTap b (Wired w) = wire_at b w ≡ true
