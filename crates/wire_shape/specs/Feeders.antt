-- Which wires feed a wire: each gives it its own power less one.
use Rattle.std.specs.Prelude.{Bool, not, ◌&&◌, if◌then◌else◌, List, ◌++◌, Option, Some, None}
use Rattle.std.specs.List.{filter_map}
use Rattle.block_table.specs.declared.Side.{Side}
use Rattle.block_table.specs.declared.Side.TheVariants.{Up, Down}
use Rattle.circuit.specs.declared.Pos.{Pos}
use Rattle.build.specs.Place.{beside}
use Rattle.build.specs.Plan.{Plan, solid_at}
use Rattle.wire_shape.specs.Shape.{around, wire_at}

abbrev pub place_if : Bool → Pos → Option Pos
place_if test p = if test then Some p else None

-- the wire below a neighbour that isn't solid
unfoldable pub fed_from_below : Plan → Pos → Side → Option Pos
fed_from_below b p side =
    place_if (not (solid_at b (beside side p)) && wire_at b (beside Down (beside side p))) (beside Down (beside side p))

-- a neighbour that is a wire
unfoldable pub fed_from_beside : Plan → Pos → Side → Option Pos
fed_from_beside b p side = place_if (wire_at b (beside side p)) (beside side p)

-- the wire above a solid neighbour, unless a solid block stands above the wire that is fed
unfoldable pub fed_from_above : Plan → Pos → Side → Option Pos
fed_from_above b p side =
    place_if (solid_at b (beside side p) && not (solid_at b (beside Up p)) && wire_at b (beside Up (beside side p))) (beside Up (beside side p))

-- the feeders of the wire at a place, in order of places
unfoldable pub feeders : Plan → Pos → List Pos
feeders b p = filter_map (fed_from_below b p) around ++ filter_map (fed_from_beside b p) around ++ filter_map (fed_from_above b p) around
