-- The words in which the worked builds and their scripts are written.
use Rattle.std.specs.Prelude.{ℕ, zero, suc, pos, false, List, [], ◌∷◌, map}
use Rattle.block_table.specs.declared.Block.{Block}
use Rattle.block_table.specs.declared.Block.TheVariants.{Inert, Wire, Lever, Container}
use Rattle.block_table.specs.declared.Side.TheVariants.{North, West}
use Rattle.block_table.specs.declared.Face.TheVariants.{Wall, Floor}
use Rattle.block_table.specs.declared.WireSide.TheVariants.{Absent}
use Rattle.circuit.specs.declared.Pos.{Pos}
use Rattle.circuit.specs.declared.Click.TheVariants.{Use, Leave, Weigh}
use Rattle.circuit.specs.declared.Act.{Act}
use Rattle.circuit.specs.declared.Act.TheVariants.{Click, Ticks}
use Rattle.build.specs.Plan.{Plan}

abbrev pub at : ℕ → ℕ → ℕ → Pos
at x y z = record { x = pos x; y = pos y; z = pos z }

-- ---- blocks

-- the numbers of names (`names_have_these_numbers`)
abbrev pub stone_button : ℕ
stone_button = 9

abbrev pub barrel_name : ℕ
barrel_name = 24

abbrev pub stone_name : ℕ
stone_name = 36

abbrev pub glass_name : ℕ
glass_name = 182

abbrev pub oak_button : ℕ
oak_button = 298

abbrev pub light_plate : ℕ
light_plate = 306

abbrev pub stone : Block
stone = Inert stone_name

abbrev pub glass : Block
glass = Inert glass_name

abbrev pub barrel : Block
barrel = Container barrel_name

abbrev pub wire : Block
wire = Wire Absent Absent Absent Absent 0

-- levers that are off: on the block below, on the block to the east, on the block to the south
abbrev pub lever_on_floor : Block
lever_on_floor = Lever Floor North false

abbrev pub lever_facing_west : Block
lever_facing_west = Lever Wall West false

abbrev pub lever_facing_north : Block
lever_facing_north = Lever Wall North false

abbrev pub repeated : ℕ → Block → List Block
repeated zero block = []
repeated (suc n) block = block ∷ repeated n block

abbrev pub stones : ℕ → List Block
stones n = repeated n stone

-- ---- builds

-- A box of so many cells along x, y and z, filled in order of y, then z, then x. It has no stored levels and no pending ticks.
abbrev pub box : ℕ → ℕ → ℕ → List Block → Plan
box width height depth blocks = record { width = width; height = height; depth = depth; blocks = blocks; levels = map (λ block. 0) blocks; pending = []; data_version = pos 0 }

-- the same with a level for each cell
abbrev pub with_levels : List ℕ → Plan → Plan
with_levels levels b = record b { levels = levels }

-- ---- scripts and views

abbrev pub use_at : ℕ → ℕ → ℕ → Act
use_at x y z = Click (at x y z) Use

abbrev pub weigh_at : ℕ → ℕ → ℕ → ℕ → Act
weigh_at x y z weight = Click (at x y z) (Weigh weight)

abbrev pub leave_at : ℕ → ℕ → ℕ → Act
leave_at x y z = Click (at x y z) Leave

abbrev pub ticks : ℕ → Act
ticks n = Ticks n

-- the views of a build with one output
abbrev pub single : List ℕ → List (List ℕ)
single values = map (λ value. value ∷ []) values
