-- The keys that nodes hold.
use Rattle.std.specs.Prelude.{List, [], ◌∷◌, Option, Some, None}

-- the keys that the nodes hold, in order
abbrev pub held : {K : Type 0} → List (Option K) → List K
held [] = []
held (None ∷ nodes) = held nodes
held (Some key ∷ nodes) = key ∷ held nodes
