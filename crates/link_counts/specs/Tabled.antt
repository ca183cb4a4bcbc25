-- How the counts of many nodes stand. A number tells those of a group: 0 is no link, 1 to 16 is one link, which brings one less, and from 17 on stand the tables.
use Rattle.std.specs.Prelude.{◌≡◌, ℕ, ◌+◌, ◌-◌, ◌<◌, ◌≤◌, ◌==◌, ◌⊎◌, List, [], ◌∷◌, ◌++◌, length, map, nat_lt, slice_index, slice_index_or, if◌then◌else◌}
use Rattle.std.specs.List.{range_with_len}
use Rattle.graph.specs.declared.Group.{Group}
use Rattle.graph.specs.declared.Group.TheVariants.{Back, Side}
use Rattle.link_counts.specs.declared.counts.Counts.{Counts}
use Rattle.link_counts.specs.declared.tables.Place.{Place}
use Rattle.link_counts.specs.Counted.{one_if}

abbrev pub no_place : Place
no_place = record { back = 0; side = 0 }

-- the number of a group
abbrev pub number_in : Place → Group → ℕ
number_in place Back = place.back
number_in place Side = place.side

abbrev pub number_of : List Place → ℕ → Group → ℕ
number_of places key group = number_in (slice_index_or places key no_place) group

-- the place with another number for a group
abbrev pub with_number : Place → Group → ℕ → Place
with_number place Back number = record { back = number; side = place.side }
with_number place Side number = record { back = place.back; side = number }

-- the counts of no link, or of one link
unfoldable pub lone_counts : ℕ → List ℕ
lone_counts number = map (λ strength. one_if ((strength + 1) == number)) (range_with_len 0 16)

abbrev pub table_at : List (List ℕ) → ℕ → List ℕ
table_at tables index = slice_index_or tables index []

-- the counts that a number tells
abbrev pub counts_by : List (List ℕ) → ℕ → List ℕ
counts_by tables number = if nat_lt number 17 then lone_counts number else table_at tables (number - 17)

-- the counts of a node
abbrev pub counts_in : List (List ℕ) → Place → Counts
counts_in tables place = record { back = counts_by tables place.back; side = counts_by tables place.side }

-- Each number tells counts, and no two groups have a table in common.
pub record IsTabled (places : List Place) (tables : List (List ℕ)) : Type 0 where
  pub wide : (index : ℕ) → index < length tables → length (table_at tables index) ≡ 16
  pub below : (key : ℕ) (group : Group) → number_of places key group < length tables + 17
  pub apart : (key other : ℕ) (group second : Group) → number_of places key group ≡ number_of places other second → 17 ≤ number_of places key group → (key ≡ other) × (group ≡ second)

-- one count is lowered and another one raised
abbrev pub IsShifted : List ℕ → ℕ → ℕ → List ℕ → Type 0
IsShifted old from to new = (strength : ℕ) → slice_index new strength + one_if (from == strength) ≡ slice_index old strength + one_if (to == strength)

-- The first counts of a table are those that this number tells of no link or of one.
pub record IsLone (table : List ℕ) (count number : ℕ) : Type 0 where
  pub small : number ≤ count
  pub counts : (strength : ℕ) → strength < count → slice_index table strength ≡ one_if ((strength + 1) == number)

-- The counts have this number: one of at most one link, or that of a new table.
abbrev pub IsAllotted : List (List ℕ) → List ℕ → ℕ → List (List ℕ) → Type 0
IsAllotted old table number new = (IsLone table 16 number × (new ≡ old)) ⊎ ((number ≡ length old + 17) × (new ≡ old ++ table ∷ []))
