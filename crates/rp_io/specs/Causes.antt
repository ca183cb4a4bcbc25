-- Counts that stick at the end of their type, the causes that they give to errors, and what a sink was handed, where it tells.
use Rattle.std.specs.Prelude.{◌≡◌, ℕ, ◌+◌, ◌≤◌, min, List, ◌++◌, Option, Some, None, Result, OnErr}

-- the last value of a count, where it stays
abbrev pub last_count : ℕ
last_count = 18446744073709551615

-- a count after one more
abbrev pub next_count : ℕ → ℕ
next_count count = min (count + 1) last_count

-- The count rose between the two: it is greater now, or stands at its last value.
abbrev pub Rose : ℕ → ℕ → Type 0
Rose before now = next_count before ≤ now

-- The count doesn't go past its last value.
abbrev pub StaysCount : ℕ → ℕ → Type 0
StaysCount before now = before ≤ last_count → now ≤ last_count

-- An error comes only where the count rose, and the count never falls.
pub record HasCause {T E : Type 0} (before now : ℕ) (result : Result T E) : Type 0 where
  pub later : before ≤ now
  pub failed : OnErr result (Rose before now)

-- these bytes behind those that were told
abbrev pub appended : Option (List ℕ) → List ℕ → Option (List ℕ)
appended None bytes = None
appended (Some before) bytes = Some (before ++ bytes)

-- These bytes were written between the two, where it is told. Whether it is told didn't change.
abbrev pub Wrote : Option (List ℕ) → Option (List ℕ) → List ℕ → Type 0
Wrote before now bytes = now ≡ appended before bytes

-- A prefix of these bytes was written between the two.
pub record WrotePrefix (before now : Option (List ℕ)) (bytes : List ℕ) : Type 0 where
  pub front : List ℕ
  pub rest : List ℕ
  pub split : bytes ≡ front ++ rest
  pub wrote : now ≡ appended before front

-- A prefix of these bytes was written between the two, and these are left.
pub record PartWay (before now : Option (List ℕ)) (bytes left : List ℕ) : Type 0 where
  pub front : List ℕ
  pub split : bytes ≡ front ++ left
  pub wrote : now ≡ appended before front
