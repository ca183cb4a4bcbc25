-- The order in which the old graph plays.
use Rattle.std.specs.Prelude.{ℕ, List, map, ◌==◌}
use Rattle.circuit.specs.Merged.{with_twin}

-- in each firing list one node is put right after another
abbrev pub in_pairs : ℕ → ℕ → List (List ℕ) → List (List ℕ)
in_pairs keep gone order = map (with_twin (λ (a : ℕ) (b : ℕ). a == b) keep gone) order
