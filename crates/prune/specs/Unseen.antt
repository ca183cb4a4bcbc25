-- Which nodes nobody sees or clicks.
use Rattle.std.specs.Prelude.{◌≡◌, ◌↔◌, ℕ, ◌<◌, true, List, Some}
use Rattle.circuit.specs.Circuit.{EachBefore, Among}
use Rattle.graph.specs.Graph.{Node, Nodes, node_at, Lives}
use Rattle.graph.specs.Steps.{Reaches, can_go}

-- none of the nodes that the node reaches is shown or clicked
abbrev pub IsUnseen : Nodes → ℕ → Type 0
IsUnseen g key = (k : ℕ) (node : Node) → Reaches g key k → node_at g k ≡ Some node → can_go node.kind ≡ true

-- The keys are those of the unseen nodes, rising.
pub record AreUnseen (g : Nodes) (keys : List ℕ) : Type 0 where
  pub rise : EachBefore (λ a b. a < b) keys
  pub all : (key : ℕ) → Among keys key ↔ (Lives g key × IsUnseen g key)
