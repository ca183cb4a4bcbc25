-- The end of a run of a graph, and the build that the graph stands for.
use Rattle.std.specs.Prelude.{◌≡◌, ℕ, true, List}
use Rattle.circuit.specs.declared.Act.{Act}
use Rattle.circuit.specs.declared.Pos.{Pos}
use Rattle.circuit.specs.Circuit.{State}
use Rattle.circuit.specs.Shows.{Plays}
use Rattle.build.specs.Plan.{Plan, block_at}
use Rattle.build.specs.Roles.{role_of}
use Rattle.graph.specs.Graph.{Nodes}
use Rattle.graph.specs.GraphCircuit.{role_of as node_role_of, graph_circuit}
use Rattle.compiler.specs.PlaceOrder.{IsPlaceOf}

-- a run of the graph ends in the state
pub record IsPlayed (g : Nodes) (s : State ℕ) : Type 0 where
  pub acts : List Act
  pub order : List (List ℕ)
  pub views : List (List ℕ)
  pub plays : Plays (graph_circuit g) acts order views s

-- At each place of a node that is no Constant stands a block that is the component of the node, a wire if it is marked.
pub record HasItsBlocks (b : Plan) (g : Nodes) : Type 0 where
  pub blocks : (key : ℕ) (p : Pos) (at : IsPlaceOf g key p) → role_of true (block_at b p) ≡ node_role_of at.node.kind
