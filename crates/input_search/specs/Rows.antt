-- Rows of numbers, and what was met of them.
use Rattle.std.specs.Prelude.{◌≡◌, ℕ, ◌<◌, Bool, true, false, not, ◌&&◌, ◌||◌, List, [], All, length, get_or}
use Rattle.std.specs.Option.{option_map_or}
use Rattle.cell_numbers.specs.Numbers.{number_in}
use Rattle.input_search.specs.CellLists.{has_cell}

abbrev pub row_at : List (List ℕ) → ℕ → List ℕ
row_at rows index = get_or rows index []

abbrev pub is_met : List Bool → ℕ → Bool
is_met met number = get_or met number false

abbrev pub AreBelow : ℕ → List ℕ → Type 0
AreBelow n numbers = All (λ i. i < n) numbers

-- these numbers were met, and those that weren't met before were found
pub record Gathers (numbers : List ℕ) (old new : List Bool) (before after : List ℕ) : Type 0 where
  pub size : length new ≡ length old
  pub met : (i : ℕ) → is_met new i ≡ (is_met old i || has_cell numbers i)
  pub found : (i : ℕ) → has_cell after i ≡ (has_cell before i || (has_cell numbers i && not (is_met old i)))

-- whether the number of a cell in a list was met
unfoldable pub has_met : List ℕ → List Bool → ℕ → Bool
has_met listed met cell = option_map_or (is_met met) (number_in listed cell) false

abbrev pub AreListed : List ℕ → List ℕ → Type 0
AreListed listed cells = All (λ i. has_cell listed i ≡ true) cells

-- these cells were met by their numbers, and those that weren't met before were found
pub record GathersCells (listed cells : List ℕ) (old new : List Bool) (before after : List ℕ) : Type 0 where
  pub size : length new ≡ length old
  pub met : (i : ℕ) → has_met listed new i ≡ (has_met listed old i || has_cell cells i)
  pub found : (i : ℕ) → has_cell after i ≡ (has_cell before i || (has_cell cells i && not (has_met listed old i)))
