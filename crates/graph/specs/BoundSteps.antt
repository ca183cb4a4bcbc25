-- A sound graph is a bounded circuit.
use Rattle.std.proofs.Common.{◌≡◌, ℕ, ◌-◌, ◌≤◌, List, [], ◌∷◌, Option, Some, None, refl, arith}
use Rattle.std.specs.Prelude.{nat_lt, IfSome}
use Rattle.circuit.specs.declared.Component.{Component}
use Rattle.circuit.specs.Bounds.{BoundedAt, IsBounded}
use Rattle.circuit.specs.Bounded.{cond_le}
use Rattle.graph.specs.declared.Kind.{Kind}
use Rattle.graph.specs.declared.Kind.TheVariants.{Comparator}
use Rattle.graph.specs.declared.Group.{Group}
use Rattle.graph.specs.declared.Group.TheVariants.{Back}
use Rattle.graph.specs.declared.Link.{Link}
use Rattle.graph.specs.Graph.{Node, Nodes, node_at}
use Rattle.graph.specs.Links.{of_group}
use Rattle.graph.specs.Readings.{share, reading, far_back, direct_back, back_of}
use Rattle.graph.specs.GraphCircuit.{role_of, role_at, base_of, base_at, begin_of, begin_at, readings_at, graph_circuit}
use Rattle.graph.specs.Sound.{top_of, IsKindInRange, IsSoundNode, IsSound}

share_le : (given : ℕ → ℕ) (top : ℕ) → ((key : ℕ) → given key ≤ top) → (group : Group) (link : Link) → share given group link ≤ top
share_le given top below group link = cond_le (of_group group link) (given link.from - link.weight) 0 top (omega (arith, below link.from)) (omega arith)

-- no reading is more than the most that is given
pub reading_le : (given : ℕ → ℕ) (top : ℕ) → ((key : ℕ) → given key ≤ top) → (group : Group) (links : List Link) → reading given group links ≤ top
reading_le given top below group [] = omega arith
reading_le given top below group (link ∷ links) = omega (arith, share_le given top below group link, reading_le given top below group links)

far_le : (power : ℕ) (far : Option ℕ) → power ≤ 15 → IfSome far (λ strength. strength ≤ 15) → far_back far power ≤ 15
far_le power None h r = h
far_le power (Some far) h r = cond_le (nat_lt power 15) far power 15 r h

direct_le : (power : ℕ) (direct : Option ℕ) → power ≤ 15 → IfSome direct (λ strength. strength ≤ 15) → direct_back direct power ≤ 15
direct_le power None h r = h
direct_le power (Some direct) h r = r

back_le : (kind : Kind) (power : ℕ) → IsKindInRange kind → power ≤ 15 → back_of kind power ≤ 15
back_le (Comparator subtract direct far) power r h = direct_le (far_back far power) direct (far_le power far h r.1) r.0
back_le _ power r h = h

begin_bounded : (role : Option Component) (state due priority : ℕ) → state ≤ top_of role → BoundedAt role (begin_of role (record { value = state; due = due; priority = priority }))
begin_bounded None state due priority h = tt
begin_bounded (Some component) state due priority h = h

base_bounded : (role : Option Component) (state : ℕ) → state ≤ top_of role → base_of role state ≤ 15
base_bounded None state h = h
base_bounded (Some component) state h = omega arith

pub graph_is_bounded : (g : Nodes) → IsSound g → IsBounded (graph_circuit g)
graph_is_bounded g sound = record {
  begin = λ key. entry_begin (node_at g key) (sound.each key);
  base = λ key. entry_base (node_at g key) (sound.each key);
  back = λ given below key. entry_back (node_at g key) (sound.each key) given below;
}
  where
    entry_begin : (entry : Option Node) → ((node : Node) → entry ≡ Some node → IsSoundNode g node) → BoundedAt (role_at entry) (begin_at entry)
    entry_begin None h = tt
    entry_begin (Some node) h = begin_bounded (role_of node.kind) node.state node.due node.priority (h node refl).state

    entry_base : (entry : Option Node) → ((node : Node) → entry ≡ Some node → IsSoundNode g node) → base_at entry ≤ 15
    entry_base None h = omega arith
    entry_base (Some node) h = base_bounded (role_of node.kind) node.state (h node refl).state

    entry_back : (entry : Option Node) → ((node : Node) → entry ≡ Some node → IsSoundNode g node) → (given : ℕ → ℕ) → ((key : ℕ) → given key ≤ 15) → (readings_at given entry).back ≤ 15
    entry_back None h given below = omega arith
    entry_back (Some node) h given below = back_le node.kind (reading given Back node.links) (h node refl).kind (reading_le given 15 below Back node.links)
