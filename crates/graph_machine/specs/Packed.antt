-- Rows of links that stand one behind another, by where each of them ends.
use Rattle.std.specs.Prelude.{ℕ, zero, suc, ◌-◌, ◌<◌, ◌≤◌, ◌^◌, List, [], ◌∷◌, length, take, drop, slice_index}
use Rattle.graph_machine.specs.declared.links.OutLink.{OutLink}

-- the links from a place to another one
abbrev pub part : List OutLink → ℕ → ℕ → List OutLink
part links start end = take (end - start) (drop start links)

-- the rows, of which the first begins here
abbrev pub rows_from : ℕ → List ℕ → List OutLink → List (List OutLink)
rows_from start [] links = []
rows_from start (end ∷ ends) links = part links start end ∷ rows_from end ends links

-- where a row begins
abbrev pub start_at : ℕ → List ℕ → ℕ → ℕ
start_at start ends zero = start
start_at start ends (suc from) = slice_index ends from

-- each row ends within the links and not before it begins
pub record IsPacked (ends : List ℕ) (links : List OutLink) : Type 0 where
  pub rising : (from : ℕ) → from < length ends → start_at 0 ends from ≤ slice_index ends from
  pub within : (from : ℕ) → from < length ends → slice_index ends from ≤ length links
  pub few : length links ≤ 2 ^ 31
