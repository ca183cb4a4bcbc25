-- Where a cell stands in a list of cells.
use Rattle.std.specs.Prelude.{ℕ, suc, ◌==◌, if◌then◌else◌, List, [], ◌∷◌, Option, Some, None, option_map}

-- the number of a cell, which is its index in the list
abbrev pub number_in : List ℕ → ℕ → Option ℕ
number_in [] cell = None
number_in (first ∷ rest) cell = if cell == first then Some 0 else option_map suc (number_in rest cell)
