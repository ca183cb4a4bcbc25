-- What the parts of the writer ask for and leave.
use Rattle.std.specs.Prelude.{◌≡◌, ℕ, List, ◌++◌}
use Rattle.nbt.specs.Plain.{PlainTree, PlainTrees, PlainFields}
use Rattle.nbt.specs.Spelling.{CanStand, ItemsCanStand, FieldsCanStand}

-- the old bytes, and some more
abbrev pub IsLonger : List ℕ → List ℕ → Type 0
IsLonger old new = (more : List ℕ) × (new ≡ old ++ more)

abbrev pub CanStandSomewhere : PlainTree → Type 0
CanStandSomewhere t = (depth : ℕ) × CanStand depth t

abbrev pub ItemsCanStandSomewhere : PlainTrees → Type 0
ItemsCanStandSomewhere ts = (depth : ℕ) × (element : ℕ) × ItemsCanStand depth element ts

abbrev pub FieldsCanStandSomewhere : PlainFields → Type 0
FieldsCanStandSomewhere fs = (depth : ℕ) × FieldsCanStand depth fs
