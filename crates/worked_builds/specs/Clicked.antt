-- Builds in which what is clicked acts at once, through a stone or a wire.
use Rattle.std.specs.Prelude.{false, [], ◌∷◌, ◌++◌}
use Rattle.block_table.specs.declared.Block.TheVariants.{Button, Lamp, Weighted, Note, Trapdoor}
use Rattle.block_table.specs.declared.Side.TheVariants.{North, West}
use Rattle.block_table.specs.declared.Face.TheVariants.{Wall}
use Rattle.build.specs.Plan.{Plan}
use Rattle.worked_builds.specs.Words.{stone_button, oak_button, light_plate, stone, wire, lever_facing_west, stones, box}

abbrev pub lever_and_lamp : Plan
lever_and_lamp = box 3 1 1 (lever_facing_west ∷ stone ∷ Lamp false ∷ [])

abbrev pub lever_and_note_block : Plan
lever_and_note_block = box 3 1 1 (lever_facing_west ∷ stone ∷ Note false ∷ [])

abbrev pub lever_and_trapdoor : Plan
lever_and_trapdoor = box 3 1 1 (lever_facing_west ∷ stone ∷ Trapdoor North false false ∷ [])

abbrev pub stone_button_and_lamp : Plan
stone_button_and_lamp = box 3 1 1 (Button stone_button Wall West false ∷ stone ∷ Lamp false ∷ [])

abbrev pub oak_button_and_lamp : Plan
oak_button_and_lamp = box 3 1 1 (Button oak_button Wall West false ∷ stone ∷ Lamp false ∷ [])

-- a light weighted plate and two wires
abbrev pub weighted_plate : Plan
weighted_plate = box 3 2 1 (stones 3 ++ (Weighted light_plate 0 ∷ wire ∷ wire ∷ []))
