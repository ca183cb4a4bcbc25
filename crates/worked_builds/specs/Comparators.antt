-- Builds with comparators, which read power and containers.
use Rattle.std.specs.Prelude.{false, [], ◌∷◌, ◌++◌}
use Rattle.block_table.specs.declared.Block.TheVariants.{Comparator, Lamp, Composter}
use Rattle.block_table.specs.declared.Side.TheVariants.{West, East}
use Rattle.build.specs.Plan.{Plan}
use Rattle.worked_builds.specs.Words.{stone, barrel, wire, lever_on_floor, stones, box, with_levels}

-- a barrel of strength 7, a comparator that reads it, and a wire
abbrev pub barrel_and_comparator : Plan
barrel_and_comparator = with_levels (7 ∷ 0 ∷ 0 ∷ []) (box 3 1 1 (barrel ∷ Comparator West false ∷ wire ∷ []))

-- the same with a stone before the barrel
abbrev pub barrel_behind_stone : Plan
barrel_behind_stone = with_levels (7 ∷ 0 ∷ 0 ∷ 0 ∷ []) (box 4 1 1 (barrel ∷ stone ∷ Comparator West false ∷ wire ∷ []))

-- a composter of level 5, a comparator that reads it, and a wire
abbrev pub composter_and_comparator : Plan
composter_and_comparator = box 3 1 1 (Composter 5 ∷ Comparator West false ∷ wire ∷ [])

-- a lever between two comparators, each before a lamp
abbrev pub two_comparators : Plan
two_comparators = box 5 2 1 (stones 5 ++ (Lamp false ∷ Comparator East false ∷ lever_on_floor ∷ Comparator West false ∷ Lamp false ∷ []))
