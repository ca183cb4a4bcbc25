-- Places that are noted for ticks.
use Rattle.std.specs.Prelude.{◌≡◌, false, List}
use Rattle.circuit.specs.declared.Pos.{Pos}
use Rattle.build.specs.declared.Pending.{Pending}
use Rattle.build.specs.Plan.{is_pending}
use Rattle.build.specs.Marks.{is_marked}

-- at a place that isn't noted no tick is pending
abbrev pub AreNoted : List Pending → List Pos → Type 0
AreNoted ticks places = (p : Pos) → is_marked places p ≡ false → is_pending ticks p ≡ false
