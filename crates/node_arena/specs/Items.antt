-- What an arena holds.
use Rattle.std.specs.Prelude.{ℕ, suc, List, [], ◌∷◌, Option, Some, None}

-- The item or nothing under each key that was given, from key 0 on, and for how many more items there is room.
pub record Items (T : Type 0) : Type 0 where
  pub entries : List (Option T)
  pub spare : ℕ

-- the keys that hold an item, where these entries stand from this key on
abbrev pub keys_from : {T : Type 0} → ℕ → List (Option T) → List ℕ
keys_from key [] = []
keys_from key (None ∷ entries) = keys_from (suc key) entries
keys_from key (Some item ∷ entries) = key ∷ keys_from (suc key) entries

-- the keys that hold an item, rising
abbrev pub keys_of : {T : Type 0} → List (Option T) → List ℕ
keys_of entries = keys_from 0 entries
