-- Places within two steps of a place.
use Rattle.std.specs.Prelude.{pos, List, [], ◌∷◌}
use Rattle.block_table.specs.declared.Side.{Side}
use Rattle.block_table.specs.declared.Side.TheVariants.{Down, Up, North, South, West, East}
use Rattle.circuit.specs.declared.Pos.{Pos}
use Rattle.build.specs.Place.{beside}

abbrev pub origin : Pos
origin = record { x = pos 0; y = pos 0; z = pos 0 }

-- a place within two steps of another
pub data IsNearby (p : Pos) : Pos → Type 0 where
  Itself : IsNearby p p
  OneStep : (s : Side) → IsNearby p (beside s p)
  TwoSteps : (s t : Side) → IsNearby p (beside t (beside s p))

abbrev pub two_beside : Side → Side → Pos → Pos
two_beside s t p = beside t (beside s p)

-- all of them, each once
unfoldable pub nearby : Pos → List Pos
nearby p =
    p ∷ beside Down p ∷ beside Up p ∷ beside North p ∷ beside South p ∷ beside West p ∷ beside East p
    ∷ two_beside Down Down p ∷ two_beside Up Up p ∷ two_beside North North p ∷ two_beside South South p ∷ two_beside West West p ∷ two_beside East East p
    ∷ two_beside Down North p ∷ two_beside Down South p ∷ two_beside Down West p ∷ two_beside Down East p
    ∷ two_beside Up North p ∷ two_beside Up South p ∷ two_beside Up West p ∷ two_beside Up East p
    ∷ two_beside North West p ∷ two_beside North East p ∷ two_beside South West p ∷ two_beside South East p ∷ []
