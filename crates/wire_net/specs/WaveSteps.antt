-- What one step of a wave does, and what the lists of a Work say.
use Rattle.std.specs.Prelude.{◌≡◌, ℕ, ◌+◌, ◌-◌, ◌<◌, ◌≤◌, ◌⊎◌, min, max, List, [], ◌∷◌, ◌++◌, length, slice_index, set}
use Rattle.wire_net.specs.Net.{Cell, cell_at, power_under}
use Rattle.wire_net.specs.Listed.{list_at}

-- x stands in the list at i or later
abbrev pub Later : List ℕ → ℕ → ℕ → Type 0
Later xs i x = (k : ℕ) × (i ≤ k) × (k < length xs) × (slice_index xs k ≡ x)

abbrev pub Has : List ℕ → ℕ → Type 0
Has xs x = Later xs 0 x

abbrev pub AreBelow : ℕ → List ℕ → Type 0
AreBelow n xs = (k : ℕ) → k < length xs → slice_index xs k < n

-- how many of the powers are at least l
abbrev pub count_from : ℕ → List ℕ → ℕ
count_from l [] = 0
count_from l (x ∷ xs) = min 1 (x + 1 - l) + count_from l xs

-- the list of a cell in `fed` has the cells that have it among their feeders
pub record IsTurned (feeders fed : List (List ℕ)) : Type 0 where
  pub long : length fed ≡ length feeders
  pub each : (cell feeder : ℕ) → Has (list_at feeders cell) feeder → Has (list_at fed feeder) cell
  pub only : (cell feeder : ℕ) → Has (list_at fed feeder) cell → Has (list_at feeders cell) feeder

-- a cell that has more power than it must have has fallen to 0, and stands in the list of the fallen
abbrev pub Fell : List Cell → List ℕ → List ℕ → ℕ → List ℕ → List ℕ → Type 0
Fell net p fallen d p1 fallen1 =
    ((slice_index p d ≤ power_under p (cell_at net d)) × (p1 ≡ p) × (fallen1 ≡ fallen))
    ⊎ ((0 < slice_index p d) × (p1 ≡ set p d 0) × (fallen1 ≡ fallen ++ d ∷ []))

-- a cell that has less power than it must have has risen to that, and stands in the list of that level
abbrev pub Rose : List Cell → List ℕ → List (List ℕ) → ℕ → List ℕ → List (List ℕ) → Type 0
Rose net p ls d p1 ls1 =
    ((power_under p (cell_at net d) ≤ slice_index p d) × (p1 ≡ p) × (ls1 ≡ ls))
    ⊎ ((slice_index p d < power_under p (cell_at net d)) × (p1 ≡ set p d (power_under p (cell_at net d)))
    × (ls1 ≡ set ls (power_under p (cell_at net d)) (list_at ls (power_under p (cell_at net d)) ++ d ∷ [])))

-- In the falling wave: a cell that has more power than it must have is still to be looked at, or is
-- fed by one that fell and whose turn has not come. One that has less is a changed or a fallen one.
pub record Falling (net : List Cell) (changed p fallen : List ℕ) (next : ℕ) (todo : List ℕ) (i : ℕ) : Type 0 where
  pub long : length p ≡ length net
  pub low : (e : ℕ) → slice_index p e ≤ 15
  pub held : (e : ℕ) → (slice_index p e ≤ power_under p (cell_at net e)) ⊎ (Later todo i e ⊎ ((f : ℕ) × Later fallen next f × Has (cell_at net e).feeders f))
  pub full : (e : ℕ) → (power_under p (cell_at net e) ≤ slice_index p e) ⊎ (Has changed e ⊎ Has fallen e)
  pub inside : AreBelow (length net) fallen
  pub room : length fallen + count_from 1 p ≤ length net

-- a cell whose turn in the rising wave has not come, where the cells of a level before i had theirs
abbrev pub IsWaiting : List ℕ → List (List ℕ) → ℕ → ℕ → ℕ → Type 0
IsWaiting p ls level i f =
    ((slice_index p f < level) × Has (list_at ls (slice_index p f)) f)
    ⊎ ((slice_index p f ≡ level) × Later (list_at ls level) i f)

-- In the rising wave: no cell has more power than it must have. One that has less is still to be
-- looked at, or is fed by one whose turn has not come, and needs no power at or above the level.
pub record Rising (net : List Cell) (p : List ℕ) (ls : List (List ℕ)) (level i : ℕ) (Todo : ℕ → Type 0) : Type 0 where
  pub long : length p ≡ length net
  pub low : (e : ℕ) → slice_index p e ≤ 15
  pub held : (e : ℕ) → slice_index p e ≤ power_under p (cell_at net e)
  pub based : (e : ℕ) → ((cell_at net e).base ≤ slice_index p e) ⊎ Todo e
  pub fed : (e f : ℕ) → Has (cell_at net e).feeders f → (slice_index p f ≤ slice_index p e + 1) ⊎ (Todo e ⊎ IsWaiting p ls level i f)
  pub cap : (e : ℕ) → power_under p (cell_at net e) ≤ max (slice_index p e) (level - 1)
  pub count : length ls ≡ 16
  pub inside : (l : ℕ) → AreBelow (length net) (list_at ls l)
  pub room : (l : ℕ) → length (list_at ls l) ≤ count_from l p

-- no cell is still to be looked at
abbrev pub Nothing : ℕ → Type 0
Nothing e = ⊥
