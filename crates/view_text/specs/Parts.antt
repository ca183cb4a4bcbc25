-- The parts of a view's line: its head, and behind it the values, each of which ends at a place.
use Rattle.std.specs.Prelude.{◌≡◌, ℕ, ◌+◌, ◌*◌, ◌<◌, ◌≤◌, ◌^◌, Bool, false, List, [], ◌∷◌, ◌++◌, All, length, drop, codes, decimal}
use Rattle.std.specs.List.{flat_map}
use Rattle.report.specs.declared.Cause.{Cause}
use Rattle.report.specs.ViewLine.{cause_text, value_text}

-- the cause with the space before it
abbrev pub cause_part : Cause → List ℕ
cause_part cause = codes " " ++ cause_text cause

abbrev pub head_part : ℕ → Cause → List ℕ
head_part time cause = decimal time ++ cause_part cause

-- the values and the line's end
unfoldable pub values_part : List ℕ → List ℕ
values_part values = flat_map value_text values ++ codes "\n"

-- where the text of each value ends, if the first one's begins at this place
abbrev pub ends_from : ℕ → List ℕ → List ℕ
ends_from place [] = []
ends_from place (value ∷ values) = (place + length (value_text value)) ∷ ends_from (place + length (value_text value)) values

-- Behind 32 bytes the line has the values, and each of them ends where the list says.
pub record HasValues (line ends values : List ℕ) : Type 0 where
  pub text : drop 32 line ≡ values_part values
  pub places : ends ≡ ends_from 32 values

-- A line with room for values of two digits each, which has its values where it isn't stale.
pub record IsKept (line : List ℕ) (capacity : ℕ) (ends values : List ℕ) (stale : Bool) : Type 0 where
  pub small : All (λ value. value ≤ 15) values
  pub whole : length ends ≡ length values
  pub head : 32 ≤ length line
  pub room : 33 + 3 * length values ≤ capacity
  pub short : 33 + 3 * length values < 2 ^ 32
  pub fresh : stale ≡ false → HasValues line ends values
