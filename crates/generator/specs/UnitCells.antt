-- What stands in one unit of a made build: four wide, three high and ten deep.
use Rattle.std.specs.Prelude.{ℕ, ◌+◌, Bool, true, false, ◌==◌, ◌&&◌, if◌then◌else◌, List, [], ◌∷◌, ◌++◌, map, find}
use Rattle.std.specs.Option.{option_map_or}
use Rattle.block_table.specs.declared.Block.{Block}
use Rattle.block_table.specs.declared.Block.TheVariants.{Air, Inert, Wire, Torch, WallTorch, Comparator, Lever, Lamp, Composter}
use Rattle.block_table.specs.declared.Face.TheVariants.{Floor, Wall}
use Rattle.block_table.specs.declared.Side.TheVariants.{North, South, West, East}
use Rattle.block_table.specs.declared.WireSide.TheVariants.{Absent, Side as Sideways}

-- a block at x, y and z of a unit
abbrev pub UnitCell : Type 0
UnitCell = ℕ × ℕ × ℕ × Block

-- names are numbers of the list of names
abbrev pub stone : Block
stone = Inert 36

abbrev pub white_concrete : Block
white_concrete = Inert 118

-- a lamp that is on exactly where both levers are
abbrev pub and_gate : List UnitCell
and_gate =
    (0, 0, 0, Lever Wall North false)
    ∷ (2, 0, 0, Lever Wall North false)
    ∷ (0, 0, 1, white_concrete)
    ∷ (1, 0, 1, white_concrete)
    ∷ (2, 0, 1, white_concrete)
    ∷ (1, 0, 2, WallTorch South false)
    ∷ (1, 0, 3, Lamp false)
    ∷ (0, 1, 1, Torch true)
    ∷ (2, 1, 1, Torch true)
    ∷ (1, 1, 1, Wire Absent Sideways Absent Sideways 15)
    ∷ []

-- two torches on one block, each with a lamp below it, and a lever on the block
abbrev pub twins : List UnitCell
twins =
    (0, 0, 0, Lamp true)
    ∷ (2, 0, 0, Lamp true)
    ∷ (0, 1, 0, WallTorch West true)
    ∷ (1, 1, 0, stone)
    ∷ (2, 1, 0, WallTorch East true)
    ∷ (1, 2, 0, Lever Floor North false)
    ∷ []

-- a torch that turns itself off and on
abbrev pub clock : List UnitCell
clock =
    (0, 1, 0, stone)
    ∷ (1, 1, 0, WallTorch East true)
    ∷ (0, 2, 0, Wire Absent Absent Absent Absent 0)
    ∷ (1, 2, 0, stone)
    ∷ []

-- a comparator that reads a composter, and a lamp
abbrev pub measured : List UnitCell
measured = (0, 0, 0, Composter 5) ∷ (1, 0, 0, Comparator West false) ∷ (2, 0, 0, Lamp true) ∷ []

-- the cells so much further south
abbrev pub southward : ℕ → List UnitCell → List UnitCell
southward by cells = map (λ (cell : UnitCell). (cell.0, cell.1, cell.2 + by, cell.3)) cells

unfoldable pub unit_cells : List UnitCell
unit_cells = and_gate ++ (southward 5 twins ++ (southward 7 clock ++ southward 9 measured))

abbrev pub stands_at : ℕ → ℕ → ℕ → UnitCell → Bool
stands_at x y z cell = (cell.0 == x) && ((cell.1 == y) && (cell.2 == z))

-- the block of the cell that stands there, if one does; all else is air
abbrev pub block_among : List UnitCell → ℕ → ℕ → ℕ → Block
block_among cells x y z = option_map_or (λ (cell : UnitCell). cell.3) (find (stands_at x y z) cells) Air

unfoldable pub unit_block : ℕ → ℕ → ℕ → Block
unit_block x y z = block_among unit_cells x y z

-- what is stored: the comparator gives 5
unfoldable pub unit_level : ℕ → ℕ → ℕ → ℕ
unit_level x y z = if (x == 1) && ((y == 0) && (z == 9)) then 5 else 0
