-- Graphs that are one.
use Rattle.std.proofs.Common.{◌≡◌, ℕ, suc, [], ◌∷◌, arith, length, refl}
use Rattle.graph.specs.Graph.{Nodes, node_at}

-- graphs with the same under each key
pub nodes_same : (a b : Nodes) → length a ≡ length b → ((k : ℕ) → node_at a k ≡ node_at b k) → a ≡ b
nodes_same [] [] l h = refl
nodes_same (m ∷ a) (n ∷ b) l h =
    let first : m ≡ n = h 0 in
    let others : a ≡ b = nodes_same a b (omega arith) (λ k. h (suc k)) in
    λ i. first i ∷ others i
nodes_same [] (n ∷ b) l h = absurd (omega arith)
nodes_same (m ∷ a) [] l h = absurd (omega arith)
