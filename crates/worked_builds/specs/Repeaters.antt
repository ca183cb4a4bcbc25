-- Builds with repeaters.
use Rattle.std.specs.Prelude.{false, [], ◌∷◌, ◌++◌}
use Rattle.block_table.specs.declared.Block.TheVariants.{Air, Repeater, Lamp}
use Rattle.block_table.specs.declared.Side.TheVariants.{North, South, West}
use Rattle.build.specs.Plan.{Plan}
use Rattle.worked_builds.specs.Words.{wire, lever_on_floor, stones, box}

-- a lever, a repeater of four ticks, and a lamp
abbrev pub slow_repeater : Plan
slow_repeater = box 3 2 1 (stones 3 ++ (lever_on_floor ∷ Repeater 4 West false ∷ Lamp false ∷ []))

-- A lever, a repeater and a lamp. At the repeater's side stands another one that is turned to it, behind which a second lever stands.
abbrev pub lockable_repeater : Plan
lockable_repeater = box 3 2 3 (
    stones 9
    ++ ((lever_on_floor ∷ Repeater 1 West false ∷ Lamp false ∷ [])
    ++ ((Air ∷ Repeater 1 South false ∷ Air ∷ [])
    ++ (Air ∷ lever_on_floor ∷ Air ∷ []))))

-- One lever turns on two repeaters in the same tick, one behind a third one and the other at its side.
abbrev pub back_and_lock : Plan
back_and_lock = box 4 2 3 (
    stones 12
    ++ ((lever_on_floor ∷ wire ∷ wire ∷ Air ∷ [])
    ++ ((wire ∷ Air ∷ Repeater 1 North false ∷ Air ∷ [])
    ++ (wire ∷ Repeater 1 West false ∷ Repeater 1 West false ∷ Lamp false ∷ []))))
