-- Files in memory.
use Rattle.std.specs.Prelude.{ℕ, Bool, ◌||◌, nat_eq, List, [], ◌∷◌, Option, Some, None, is_none, if◌then◌else◌}
use Rattle.std.specs.List.{list_any}
use Rattle.std.specs.Str.{bytes_eq}
use Rattle.rp_text.specs.declared.Raw.{Raw}

-- the bytes of the first pair of this name
abbrev pub found : List (Raw × Raw) → List ℕ → Option (List ℕ)
found [] name = None
found (pair ∷ pairs) name = if bytes_eq pair.0.items.items name then Some pair.1.items.items else found pairs name

-- no file is an empty one
abbrev pub or_empty : Option (List ℕ) → List ℕ
or_empty None = []
or_empty (Some bytes) = bytes

-- the bytes of a name, where an unknown name is an empty file
abbrev pub found_or_empty : List (Raw × Raw) → List ℕ → List ℕ
found_or_empty pairs name = or_empty (found pairs name)

-- this count for the watched name alone
abbrev pub told_count : (watch : List ℕ) → ℕ → List ℕ → Option ℕ
told_count watch count name = if bytes_eq watch name then Some count else None

-- the call of this number fails: it is listed, or its file is unknown
abbrev pub is_fault : (failing : List ℕ) → ℕ → Option (List ℕ) → Bool
is_fault failing call file = list_any (λ n. nat_eq n call) failing || is_none file
