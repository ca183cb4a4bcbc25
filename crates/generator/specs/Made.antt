-- The build and the script that are made of a number: so many units in a row from west to east, and the clicks on their levers.
use Rattle.std.specs.Prelude.{ℕ, ◌+◌, ◌*◌, ◌/◌, ◌%◌, Bool, ◌==◌, if◌then◌else◌, pos, List, [], ◌∷◌, ◌++◌, map}
use Rattle.std.specs.List.{flat_map, range_with_len}
use Rattle.build.specs.Plan.{Plan}
use Rattle.circuit.specs.declared.Act.{Act}
use Rattle.circuit.specs.declared.Act.TheVariants.{Click, Ticks}
use Rattle.circuit.specs.declared.Click.TheVariants.{Use}
use Rattle.circuit.specs.declared.Pos.{Pos}
use Rattle.script.specs.Acts.{Meaning}
use Rattle.generator.specs.UnitCells.{unit_block, unit_level}

-- what a cell of n units holds, where `at` tells what a unit holds at x, y and z
abbrev pub in_unit : {A : Type 0} → (ℕ → ℕ → ℕ → A) → ℕ → ℕ → A
in_unit at n i = at (i % (4 * n) % 4) (i / (4 * n) / 10) (i / (4 * n) % 10)

-- what all cells of n units hold
abbrev pub units_of : {A : Type 0} → (ℕ → ℕ → ℕ → A) → ℕ → List A
units_of at n = map (in_unit at n) (range_with_len 0 (120 * n))

unfoldable pub made_build : ℕ → Plan
made_build n = record {
  width = 4 * n;
  height = 3;
  depth = 10;
  blocks = units_of unit_block n;
  levels = units_of unit_level n;
  pending = [];
  data_version = pos 0;
}

abbrev pub is_odd : ℕ → Bool
is_odd n = n % 2 == 1

abbrev pub place_at : ℕ → ℕ → ℕ → Pos
place_at x y z = record { x = pos x; y = pos y; z = pos z }

abbrev pub use_at : ℕ → ℕ → ℕ → Act
use_at x y z = Click (place_at x y z) Use

abbrev pub act_if : Bool → Act → List Act
act_if wanted act = if wanted then act ∷ [] else []

-- the clicks on unit i: on the levers of its gate and on that of its twins
unfoldable pub unit_acts : ℕ → List Act
unit_acts i =
    act_if (is_odd i) (use_at (4 * i) 0 0)
    ++ (act_if (is_odd (i / 2)) (use_at (4 * i + 2) 0 0)
    ++ act_if (is_odd i) (use_at (4 * i + 1) 2 5))

-- the clicks on all units, from west to east
abbrev pub clicks_on : ℕ → List Act
clicks_on n = flat_map unit_acts (range_with_len 0 n)

-- the clicks, and then eight ticks
unfoldable pub made_script : ℕ → Meaning
made_script n = record { marks = []; acts = clicks_on n ++ Ticks 8 ∷ [] }

-- some acts more, at the end
abbrev pub with_acts : Meaning → List Act → Meaning
with_acts script acts = record script { acts = script.acts ++ acts }
