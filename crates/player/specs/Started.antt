-- What has just started, and is ready to be played.
use Rattle.std.specs.Prelude.{◌≡◌, ℕ, ◌≤◌, Bool, List}
use Rattle.circuit.specs.declared.Pos.{Pos}
use Rattle.circuit.specs.Circuit.{view, start}
use Rattle.build.specs.Plan.{Plan}
use Rattle.graph.specs.Graph.{Nodes, node_count, link_count}
use Rattle.graph.specs.GraphCircuit.{graph_circuit}
use Rattle.graph_machine.specs.Playing.{Playing, state_in}
use Rattle.power_rules.specs.World.{world_circuit}
use Rattle.world_engine.specs.Running.{Running, state_in as world_state}
use Rattle.report.specs.declared.Counts.{Counts}
use Rattle.report.specs.RoomyText.{RoomyText}
use Rattle.player.specs.Played.{header_of}

-- what is to be played: the graph, the header of its text, and whether its order is shown
pub record Ready : Type 0 where
  pub nodes : Nodes
  pub header : List ℕ
  pub is_ordered : Bool

-- The machine has just started with this graph, and these are the counts before its run and the values that its outputs show.
pub record HasStarted (g : Nodes) (m : Playing) (counts : Counts) (shown : List ℕ) : Type 0 where
  pub here : m.nodes ≡ g
  pub nodes : counts.nodes ≡ node_count g
  pub links : counts.links ≡ link_count g
  pub time : m.time ≡ 0
  pub events : m.events ≡ 0
  pub at_start : state_in m ≡ start (graph_circuit g)
  pub view : shown ≡ view (graph_circuit g) (state_in m)

-- So it is, and its order is noted where that is to be.
pub record IsStarted (g : Nodes) (to_be_ordered : Bool) (m : Playing) (is_ordered : Bool) (counts : Counts) (shown : List ℕ) : Type 0 where
  pub has : HasStarted g m counts shown
  pub order : is_ordered ≡ to_be_ordered

-- It has just started, with room for a trailer.
pub record IsReady (m : Playing) (counts : Counts) (shown : List ℕ) (line : RoomyText) : Type 0 where
  pub has : HasStarted m.nodes m counts shown
  pub room : 96 ≤ line.room

-- The world of the build has just started, with these marks: the header of its text, the values that its outputs show, and room for a trailer.
pub record IsStartedWorld (build : Plan) (marked : List Pos) (world : Running) (head shown : List ℕ) (line : RoomyText) : Type 0 where
  pub plan : world.plan ≡ build
  pub marks : world.marks ≡ marked
  pub header : head ≡ header_of world.plan world.marks
  pub time : world.time ≡ 0
  pub at_start : world_state world ≡ start (world_circuit world.plan world.marks)
  pub view : shown ≡ view (world_circuit world.plan world.marks) (world_state world)
  pub room : 96 ≤ line.room
