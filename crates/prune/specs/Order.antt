-- In which order the nodes fire that a prune drops.
use Rattle.std.specs.Prelude.{◌≡◌, ℕ, List, filter, is_none}
use Rattle.node_arena.specs.Items.{keys_of}
use Rattle.circuit.specs.Circuit.{State}
use Rattle.graph.specs.Graph.{Nodes, node_at, Lives}

-- the nodes of the old graph that the new one doesn't have, by rising number
abbrev pub dropped_keys : Nodes → Nodes → List ℕ
dropped_keys old new = filter (λ key. is_none (node_at new key)) (keys_of old)

-- The states have one time, and each node of the new graph has the same value and the same pending tick in both.
pub record AgreeOn (new : Nodes) (new_state old_state : State ℕ) : Type 0 where
  pub time : new_state.time ≡ old_state.time
  pub cells : (key : ℕ) → Lives new key → new_state.cells key ≡ old_state.cells key
