-- A net of cells, as a plain list, and the power that each of its cells must have.
use Rattle.std.specs.Prelude.{◌≡◌, ℕ, zero, suc, ◌-◌, ◌<◌, ◌≤◌, ◌⊎◌, max, List, [], ◌∷◌, length, map, slice_index, slice_index_or, Contains}

-- a cell: the power that it has without other cells, and the cells that feed it
pub record Cell : Type 0 where
  pub base : ℕ
  pub feeders : List ℕ

-- what stands where a net has no cell
abbrev pub no_cell : Cell
no_cell = record { base = 0; feeders = [] }

abbrev pub cell_at : List Cell → ℕ → Cell
cell_at net i = slice_index_or net i no_cell

-- the greatest of a list, 0 of none
abbrev pub greatest : List ℕ → ℕ
greatest [] = 0
greatest (x ∷ xs) = max x (greatest xs)

-- the greatest of 0, the cell's base power, and the power of each feeder less one
abbrev pub power_under : List ℕ → Cell → ℕ
power_under powers cell = max cell.base (greatest (map (λ f. slice_index powers f - 1) cell.feeders))

-- the powers are right where each cell has the power that it must have under them
abbrev pub IsRight : List Cell → List ℕ → Type 0
IsRight net powers = powers ≡ map (power_under powers) net

-- no base power is above 15
abbrev pub IsBounded : List Cell → Type 0
IsBounded net = (i : ℕ) → (cell_at net i).base ≤ 15

-- each feeder is a cell
abbrev pub IsClosed : List Cell → Type 0
IsClosed net = (i : ℕ) (k : ℕ) → k < length (cell_at net i).feeders → slice_index (cell_at net i).feeders k < length net

-- the powers after some rounds, from 0 at each cell
unfoldable pub after : ℕ → List Cell → List ℕ
after zero net = map (λ c. 0) net
after (suc k) net = map (power_under (after k net)) net

-- the right powers, computed: no power is above 15, so 15 rounds are enough
unfoldable pub right_powers : List Cell → List ℕ
right_powers net = after 15 net

-- a cell reaches itself in no step, and each feeder of a cell that it reaches in one step more
pub data Reaches (net : List Cell) (w : ℕ) : ℕ → ℕ → Type 0 where
  here : Reaches net w w 0
  onward : {v s n : ℕ} → Reaches net w v n → Contains (cell_at net v).feeders s → Reaches net w s (suc n)

-- the least number of steps
pub record IsDistance (net : List Cell) (w s n : ℕ) : Type 0 where
  pub reached : Reaches net w s n
  pub least : (m : ℕ) → Reaches net w s m → n ≤ m

-- a power is the greatest of 0 and, over all cells that it reaches, their base power less their distance
pub record IsGreatestReached (net : List Cell) (w power : ℕ) : Type 0 where
  pub above : (s n : ℕ) → IsDistance net w s n → (cell_at net s).base - n ≤ power
  pub reached : 0 < power → (s : ℕ) × (n : ℕ) × IsDistance net w s n × (power ≡ (cell_at net s).base - n)

-- the feeders of each cell
abbrev pub feeders_of : List Cell → List (List ℕ)
feeders_of net = map (λ cell. cell.feeders) net

-- the powers were right for a net that has the same feeders, and whose base powers differ from
-- this net's at no other cells than the changed ones
pub record WasRight (net : List Cell) (powers changed : List ℕ) : Type 0 where
  pub before : List Cell
  pub bounded : IsBounded before
  pub right : IsRight before powers
  pub feeders : feeders_of before ≡ feeders_of net
  pub bases : (i : ℕ) → ((cell_at before i).base ≡ (cell_at net i).base) ⊎ Contains changed i
