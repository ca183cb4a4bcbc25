-- The pending ticks of a build by the cells of their places.
use Rattle.std.specs.Prelude.{◌≡◌, ℕ, ◌<◌, List}
use Rattle.std.specs.Ordering.{nat_cmp}
use Rattle.std.specs.BTreeMap.{BTreeMap, get}
use Rattle.build.specs.declared.Pending.{Pending}
use Rattle.build.specs.Plan.{Plan, volume, place_of}
use Rattle.build.specs.Roles.{waiting_at}

-- under each cell stands the first of these ticks that is pending at its place
abbrev pub AreByCell : Plan → List Pending → BTreeMap ℕ Pending → Type 0
AreByCell b ticks m = (cell : ℕ) → cell < volume b → get nat_cmp m cell ≡ waiting_at ticks (place_of b cell)
