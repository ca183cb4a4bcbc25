-- No node stands behind the last key.
use Rattle.std.proofs.Common.{◌≡◌, ℕ, zero, suc, ◌+◌, ◌<◌, ◌≤◌, List, [], ◌∷◌, Some, None, length, get_or, refl, arith}
use Rattle.std.specs.Prelude.{All}
use Rattle.graph.specs.Graph.{Nodes, node_at}
use Rattle.node_arena.specs.Items.{keys_from}

pub keys_above : (from : ℕ) (g : Nodes) (count : ℕ) → All (λ key. key < count) (keys_from from g) → (key : ℕ) → count ≤ from + key → node_at g key ≡ None
keys_above from [] count all key past = refl
keys_above from (None ∷ g) count all zero past = refl
keys_above from (None ∷ g) count all (suc key) past = keys_above (suc from) g count all key (omega arith)
keys_above from (Some node ∷ g) count all zero past = absurd (let here = all 0 from (omega arith) in omega arith)
keys_above from (Some node ∷ g) count all (suc key) past = keys_above (suc from) g count (λ k d h. all (suc k) d (omega arith)) key (omega arith)

pub same_default : {A : Type 0} (xs : List A) (n : ℕ) (a b : A) → n < length xs → get_or xs n a ≡ get_or xs n b
same_default [] n a b h = absurd (omega arith)
same_default (x ∷ xs) zero a b h = refl
same_default (x ∷ xs) (suc n) a b h = same_default xs n a b (omega arith)
