-- The powers of wires: which are right for what the components give.
use Rattle.std.specs.Prelude.{◌≡◌, ℕ, ◌-◌, ◌≤◌, max, true, if◌then◌else◌, List, map}
use Rattle.wire_net.specs.Net.{Cell, no_cell, greatest, right_powers}
use Rattle.circuit.specs.declared.Pos.{Pos}
use Rattle.build.specs.Place.{sides}
use Rattle.build.specs.Plan.{Plan, entry, cell_of, places}
use Rattle.wire_shape.specs.Shape.{wire_at}
use Rattle.wire_shape.specs.Feeders.{feeders}
use Rattle.power_rules.specs.Power.{read_no_dust}

-- the greatest power that a wire reads from its six neighbours without dust
unfoldable pub source_power : Plan → (Pos → ℕ) → Pos → ℕ
source_power b given p = greatest (map (read_no_dust b given p) sides)

-- Powers of 0 to 15 are right where that of each wire is the greatest of 0, the power that it reads without dust, and the power of each feeder less one.
pub record AreRight (b : Plan) (given power : Pos → ℕ) : Type 0 where
  pub at_wires : (p : Pos) → wire_at b p ≡ true → power p ≡ max (source_power b given p) (greatest (map (λ q. power q - 1) (feeders b p)))
  pub small : (p : Pos) → power p ≤ 15

-- The wires as a net: a cell for each cell of the box, which is empty where no wire stands.
abbrev pub wire_cell : Plan → (Pos → ℕ) → Pos → Cell
wire_cell b given p =
    if wire_at b p
    then record { base = source_power b given p; feeders = map (cell_of b) (feeders b p) }
    else no_cell

abbrev pub wire_cells : Plan → (Pos → ℕ) → List Cell
wire_cells b given = map (wire_cell b given) (places b)

-- the right powers, computed, one for each cell of the box
unfoldable pub wire_powers : Plan → (Pos → ℕ) → List ℕ
wire_powers b given = right_powers (wire_cells b given)

-- the level at each place: of a wire its power, and else what is given there
abbrev pub level_with : Plan → (Pos → ℕ) → (Pos → ℕ) → Pos → ℕ
level_with b given power p = if wire_at b p then power p else given p

-- the same where powers are listed for the cells of the box
abbrev pub levels : Plan → (Pos → ℕ) → List ℕ → Pos → ℕ
levels b given powers = level_with b given (entry b powers 0)
