-- The things of a build, which are its wires and components. Each has a number.
use Rattle.std.specs.Prelude.{◌≡◌, ℕ, zero, suc, ◌<◌, ◌≤◌, Bool, true, false, ◌||◌, List, length, slice_index, slice_index_or, Option, Some, None, is_some}
use Rattle.std.specs.Option.{option_map_or}
use Rattle.circuit.specs.declared.Pos.{Pos}
use Rattle.circuit.specs.declared.Cell.{Cell}
use Rattle.circuit.specs.Circuit.{State}
use Rattle.block_table.specs.declared.Block.{Block}
use Rattle.build.specs.Plan.{Plan, IsWhole, volume, entry, block_at, place_of}
use Rattle.build.specs.Roles.{role_of}
use Rattle.wire_shape.specs.Shape.{is_wire}

-- Where each thing stands, and for each cell of the box 0, or one more than the number of the thing there.
pub record Numbered : Type 0 where
  pub plan : Plan
  pub marks : List Pos
  pub spots : List Pos
  pub numbers : List ℕ

abbrev pub is_thing : Block → Bool
is_thing block = is_wire block || is_some (role_of false block)

abbrev pub less_one : ℕ → Option ℕ
less_one zero = None
less_one (suc n) = Some n

-- the number of the thing at a place, if one stands there
unfoldable pub number_at : Numbered → Pos → Option ℕ
number_at m p = less_one (entry m.plan m.numbers 0 p)

-- what a list of the things has for the thing at a place, and `d` where none stands
unfoldable pub held : {A : Type 0} → Numbered → List A → A → Pos → A
held m xs d p = option_map_or (λ (n : ℕ). slice_index_or xs n d) (number_at m p) d

-- the cells below i have their numbers
pub record IsNumberedTo (b : Plan) (i : ℕ) (spots : List Pos) (numbers : List ℕ) : Type 0 where
  pub long : length numbers ≡ i
  pub few : length spots ≤ i
  pub there : (k n : ℕ) → k < i → slice_index numbers k ≡ suc n → (n < length spots) × ((d : Pos) → slice_index_or spots n d ≡ place_of b k)
  pub back : (n : ℕ) → n < length spots → (k : ℕ) × (k < i) × (slice_index numbers k ≡ suc n) × ((d : Pos) → slice_index_or spots n d ≡ place_of b k)
  pub thing : (k : ℕ) → k < i → is_thing (block_at b (place_of b k)) ≡ true → (n : ℕ) × (slice_index numbers k ≡ suc n)

-- Each thing has a number and stands where its number says.
pub record IsNumbered (m : Numbered) : Type 0 where
  pub whole : IsWhole m.plan
  pub to : IsNumberedTo m.plan (volume m.plan) m.spots m.numbers

abbrev pub nothing : Cell
nothing = record { value = 0; due = 0; priority = 0 }

-- the state of a build where its things hold these cells
abbrev pub state_by : Numbered → ℕ → List Cell → State Pos
state_by m time cells = record { time = time; cells = held m cells nothing }
