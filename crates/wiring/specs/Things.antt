-- The things of a build, which are its wires, its components and its blocks of redstone. Each has a number.
use Rattle.std.specs.Prelude.{pos, ◌≡◌, ℕ, Bool, false, ◌||◌, List, slice_index_or, map, filter, if◌then◌else◌, Option, None, is_some}
use Rattle.std.specs.List.{range_with_len}
use Rattle.std.specs.Option.{option_map_or}
use Rattle.circuit.specs.declared.Pos.{Pos}
use Rattle.circuit.specs.declared.Cell.{Cell}
use Rattle.circuit.specs.Circuit.{State}
use Rattle.block_table.specs.declared.Block.{Block}
use Rattle.build.specs.Plan.{Plan, IsWhole, volume, in_box, cell_of, block_at, place_of}
use Rattle.cell_numbers.specs.Numbers.{number_in}
use Rattle.build.specs.Roles.{role_of}
use Rattle.wire_shape.specs.Shape.{is_wire}
use Rattle.wiring.specs.Taps.{is_redstone}

-- Where each thing stands, and in which cells they do.
pub record Numbered : Type 0 where
  pub plan : Plan
  pub marks : List Pos
  pub spots : List Pos
  pub cells : List ℕ

abbrev pub is_thing : Block → Bool
is_thing block = is_wire block || (is_some (role_of false block) || is_redstone block)

-- the number of the thing at a place, if one stands there
unfoldable pub number_at : Numbered → Pos → Option ℕ
number_at m p = if in_box m.plan p then number_in m.cells (cell_of m.plan p) else None

-- what a list of the things has for the thing at a place, and `d` where none stands
unfoldable pub held : {A : Type 0} → Numbered → List A → A → Pos → A
held m xs d p = option_map_or (λ (n : ℕ). slice_index_or xs n d) (number_at m p) d

-- whether a thing stands in a cell
abbrev pub has_thing : Plan → ℕ → Bool
has_thing b cell = is_thing (block_at b (place_of b cell))

-- these are the things in the first n cells
pub record IsNumberedTo (b : Plan) (n : ℕ) (spots : List Pos) (cells : List ℕ) : Type 0 where
  pub things : cells ≡ filter (has_thing b) (range_with_len 0 n)
  pub places : spots ≡ map (place_of b) cells

-- Each thing has a number and stands where its number says.
pub record IsNumbered (m : Numbered) : Type 0 where
  pub whole : IsWhole m.plan
  pub to : IsNumberedTo m.plan (volume m.plan) m.spots m.cells

abbrev pub nothing : Cell
nothing = record { value = 0; due = 0; priority = 0 }

-- the state of a build where its things hold these cells
abbrev pub state_by : Numbered → ℕ → List Cell → State Pos
state_by m time cells = record { time = time; cells = held m cells nothing }

abbrev pub origin : Pos
origin = record { x = pos 0; y = pos 0; z = pos 0 }

-- where the thing of a number stands
abbrev pub spot : Numbered → ℕ → Pos
spot m n = slice_index_or m.spots n origin

-- the number of a thing, 0 where none stands
abbrev pub number_of : Numbered → Pos → ℕ
number_of m p = option_map_or (λ (n : ℕ). n) (number_at m p) 0
