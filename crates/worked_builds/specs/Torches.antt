-- Builds with torches.
use Rattle.std.specs.Prelude.{true, false, [], ◌∷◌, ◌++◌}
use Rattle.block_table.specs.declared.Block.TheVariants.{Air, Torch, WallTorch, Lamp}
use Rattle.block_table.specs.declared.Side.TheVariants.{South, West, East}
use Rattle.build.specs.Plan.{Plan}
use Rattle.worked_builds.specs.Words.{at, stone, wire, lever_on_floor, lever_facing_west, lever_facing_north, stones, box}

-- a lever, a stone, a torch on it, and a lamp
abbrev pub inverter : Plan
inverter = box 4 1 1 (lever_facing_west ∷ stone ∷ WallTorch East true ∷ Lamp false ∷ [])

-- two torches on one stone, each above a lamp, and a lever on that stone
abbrev pub twins : Plan
twins = box 3 3 1 (
    (Lamp true ∷ Air ∷ Lamp true ∷ [])
    ++ ((WallTorch West true ∷ stone ∷ WallTorch East true ∷ [])
    ++ (Air ∷ lever_on_floor ∷ Air ∷ [])))

-- the same, where one torch waits for a tick
abbrev pub twins_with_a_pending_tick : Plan
twins_with_a_pending_tick = record twins { pending = record { pos = at 2 1 0; due = 5; priority = 3 } ∷ [] }

-- a torch, the stone above it, beside this a wire, and below the wire the stone of the torch
abbrev pub clock : Plan
clock = box 2 3 1 (Air ∷ Air ∷ stone ∷ WallTorch East true ∷ wire ∷ stone ∷ [])

-- Two levers turn off a torch each, and a wire between these turns off a third one.
abbrev pub and_gate : Plan
and_gate = box 3 2 4 (
    (lever_facing_north ∷ Air ∷ lever_facing_north ∷ [])
    ++ (stones 3
    ++ ((Air ∷ WallTorch South false ∷ Air ∷ [])
    ++ ((Air ∷ Lamp false ∷ Air ∷ [])
    ++ ((Air ∷ Air ∷ Air ∷ [])
    ++ ((Torch true ∷ wire ∷ Torch true ∷ [])
    ++ ((Air ∷ Air ∷ Air ∷ [])
    ++ (Air ∷ Air ∷ Air ∷ []))))))))
