-- A started machine between two events.
use Rattle.std.specs.Prelude.{◌≡◌, ℕ, ◌≤◌, ◌^◌, length}
use Rattle.graph.specs.Graph.{node_count}
use Rattle.graph.specs.GraphCircuit.{graph_circuit}
use Rattle.std.specs.BTreeMap.{BTreeMap}
use Rattle.graph_machine.specs.Places.{Spot, AreClicked}
use Rattle.cell_queue.specs.Held.{Holding, NoneNow}
use Rattle.graph_machine.specs.Wired.{Wired}
use Rattle.graph_machine.specs.Screens.{Screened, AreFaced}
use Rattle.graph_machine.specs.Playing.{IsPlaying, AllStill}

-- It plays, nothing is left to attend or to fire, the outputs are those of the graph and show what they must, and there is room to note each node.
pub record IsStarted (w : Wired) (h : Holding) (s : Screened) (clicked : BTreeMap Spot ℕ) (room : ℕ) : Type 0 where
  pub playing : IsPlaying w h
  pub still : AllStill w h
  pub none : NoneNow h
  pub early : h.time ≤ 2 ^ 62
  pub outputs : s.keys ≡ (graph_circuit w.nodes).shown
  pub screen : s.count ≡ length w.outs
  pub faced : AreFaced w h.cells s
  pub takers : AreClicked w.nodes clicked
  pub enough : node_count w.nodes ≤ room
