-- Builds whose wires carry the power of a lever.
use Rattle.std.specs.Prelude.{false, [], ◌∷◌, ◌++◌}
use Rattle.block_table.specs.declared.Block.TheVariants.{Air, Comparator}
use Rattle.block_table.specs.declared.Side.TheVariants.{West}
use Rattle.build.specs.Plan.{Plan}
use Rattle.worked_builds.specs.Words.{stone, glass, wire, lever_on_floor, repeated, stones, box}

-- a lever beside a row of sixteen wires
abbrev pub long_wire : Plan
long_wire = box 17 2 1 (stones 17 ++ (lever_on_floor ∷ repeated 16 wire))

-- a lever, a wire and glass; above the glass a wire, which has a lever of its own
abbrev pub wire_over_glass : Plan
wire_over_glass = box 4 3 1 (
    stones 4
    ++ ((lever_on_floor ∷ wire ∷ glass ∷ stone ∷ [])
    ++ (Air ∷ Air ∷ wire ∷ lever_on_floor ∷ [])))

-- four wires on a square beside a lever
abbrev pub wire_square : Plan
wire_square = box 4 2 2 (
    stones 8
    ++ ((lever_on_floor ∷ wire ∷ wire ∷ Air ∷ [])
    ++ (Air ∷ wire ∷ wire ∷ Air ∷ [])))

-- A wire goes into a block and over it, and a comparator reads that block. Behind it stands a wire.
abbrev pub two_ways_into_one_block : Plan
two_ways_into_one_block = box 7 3 1 (
    stones 7
    ++ ((lever_on_floor ∷ wire ∷ wire ∷ wire ∷ stone ∷ Comparator West false ∷ wire ∷ [])
    ++ (Air ∷ Air ∷ Air ∷ Air ∷ wire ∷ Air ∷ Air ∷ [])))
