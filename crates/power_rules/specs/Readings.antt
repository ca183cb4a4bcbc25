-- What a component reads, and the level that it is to have by it.
use Rattle.std.specs.Prelude.{ℕ, [], Option, Some, None}
use Rattle.block_table.specs.declared.Side.TheVariants.{Down}
use Rattle.block_table.specs.declared.Block.{Block}
use Rattle.block_table.specs.declared.Block.TheVariants.{Air, Inert, Slab, Wire, Torch, WallTorch, Repeater, Comparator, Lever, Button, Plate, RedstoneBlock, Lamp, Trapdoor, Container, Composter, Cauldron, Cake, Weighted, Note}
use Rattle.block_table.specs.Facts.{opposite}
use Rattle.circuit.specs.declared.Pos.{Pos}
use Rattle.circuit.specs.declared.Component.{Component}
use Rattle.circuit.specs.declared.Component.TheVariants.{Weighted as WeightedPart, Comparator as ComparatorPart}
use Rattle.circuit.specs.declared.Readings.{Readings}
use Rattle.circuit.specs.Component.{goal}
use Rattle.build.specs.Plan.{Plan, block_at}
use Rattle.build.specs.Roles.{role_at}
use Rattle.power_rules.specs.Power.{full, read, read_around, input, measured, lock_power, lateral_power}

-- A torch reads its own block. A lamp, a trapdoor and a note block read their six neighbours, and a diode its input block and its two sides.
-- A wire reads itself. What else stands in a build reads nothing.
abbrev pub readings_of : Plan → (Pos → ℕ) → Pos → Block → Readings
readings_of b level p (Torch lit) = record { back = read b level p Down; side = 0 }
readings_of b level p (WallTorch facing lit) = record { back = read b level p (opposite facing); side = 0 }
readings_of b level p (Lamp lit) = record { back = read_around b level p; side = 0 }
readings_of b level p (Trapdoor facing top powered) = record { back = read_around b level p; side = 0 }
readings_of b level p (Note powered) = record { back = read_around b level p; side = 0 }
readings_of b level p (Repeater delay facing powered) = record { back = input b level p facing; side = lock_power b level p facing }
readings_of b level p (Comparator facing subtract) = record { back = measured b level p facing; side = lateral_power b level p facing }
readings_of b level p (Wire north east south west power) = record { back = level p; side = 0 }
readings_of b level p Air = record { back = 0; side = 0 }
readings_of b level p (Inert name) = record { back = 0; side = 0 }
readings_of b level p (Slab name half) = record { back = 0; side = 0 }
readings_of b level p (Lever face facing powered) = record { back = 0; side = 0 }
readings_of b level p (Button name face facing powered) = record { back = 0; side = 0 }
readings_of b level p (Plate name powered) = record { back = 0; side = 0 }
readings_of b level p RedstoneBlock = record { back = 0; side = 0 }
readings_of b level p (Container name) = record { back = 0; side = 0 }
readings_of b level p (Composter levels) = record { back = 0; side = 0 }
readings_of b level p (Cauldron water levels) = record { back = 0; side = 0 }
readings_of b level p (Cake bites) = record { back = 0; side = 0 }
readings_of b level p (Weighted name power) = record { back = 0; side = 0 }

unfoldable pub readings_at : Plan → (Pos → ℕ) → Pos → Readings
readings_at b level p = readings_of b level p (block_at b p)

-- the level of a value: 15 for what is on
abbrev pub level_of_value : Component → ℕ → ℕ
level_of_value (ComparatorPart subtract) value = value
level_of_value WeightedPart value = value
level_of_value _ value = full value

abbrev pub goal_level : Option Component → Readings → ℕ
goal_level None readings = 0
goal_level (Some component) readings = level_of_value component (goal component readings)

-- the level that the component at a place is to have
unfoldable pub goal_at : Plan → (Pos → ℕ) → Pos → ℕ
goal_at b level p = goal_level (role_at b [] p) (readings_at b level p)
