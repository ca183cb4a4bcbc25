-- A sweep over the pairs of nodes: by rising first node and, for each, by rising second one.
use Rattle.std.specs.Prelude.{◌≡◌, ◌⊎◌, ℕ, suc, ◌<◌}
use Rattle.graph.specs.Graph.{Nodes}
use Rattle.graph.specs.Edits.{merge}
use Rattle.graph.specs.Steps.{AreTwins}

-- the pair (c, d) comes before the pair (a, b)
abbrev pub IsBefore : ℕ → ℕ → ℕ → ℕ → Type 0
IsBefore c d a b = (c < a) ⊎ ((c ≡ a) × (d < b))

-- The first twins from the pair (a, b) on.
pub record AreFirst (g : Nodes) (a b keep gone : ℕ) : Type 0 where
  pub earlier : keep < gone
  pub twins : AreTwins g keep gone
  pub from : IsBefore keep gone a b → ⊥
  pub first : (c d : ℕ) → c < d → AreTwins g c d → IsBefore c d keep gone → IsBefore c d a b

-- From the pair (a, b) on, twins are taken as they are met, until no more are.
pub data Sweep : ℕ → ℕ → Nodes → Nodes → Type 0 where
  Ends : {a b : ℕ} {g : Nodes} → ((c d : ℕ) → c < d → AreTwins g c d → IsBefore c d a b) → Sweep a b g g
  Takes : {a b keep gone : ℕ} {old new : Nodes} → AreFirst old a b keep gone → Sweep keep (suc gone) (merge old keep gone) new → Sweep a b old new

-- one sweep, from the first pair on
abbrev pub SweepsOnce : Nodes → Nodes → Type 0
SweepsOnce = Sweep 0 0
