-- The field of a name: the last one counts.
use Rattle.std.specs.Prelude.{ℕ, List, Bool, true, false, ◌&&◌, ◌==◌, [], ◌∷◌, Option, Some, None}
use Rattle.nbt.specs.Plain.{PlainTree, PlainFields, no_fields, field}

abbrev pub is_same_name : List ℕ → List ℕ → Bool
is_same_name [] [] = true
is_same_name (a ∷ s) (b ∷ t) = (a == b) && is_same_name s t
is_same_name _ _ = false

-- the later tree, or where there is none this one under its name
abbrev pub later_or : Option PlainTree → Bool → PlainTree → Option PlainTree
later_or (Some later) same one = Some later
later_or None true one = Some one
later_or None false one = None

abbrev pub last_named : List ℕ → PlainFields → Option PlainTree
last_named name no_fields = None
last_named name (field own one fs) = later_or (last_named name fs) (is_same_name own name) one
