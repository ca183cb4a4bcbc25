-- What a started machine shows.
use Rattle.std.specs.Prelude.{ℕ, Option, Some, None}
use Rattle.circuit.specs.declared.Cell.{Cell}
use Rattle.circuit.specs.declared.Component.{Component}
use Rattle.circuit.specs.Circuit.{seen_at}
use Rattle.graph.specs.Graph.{Node, node_at}
use Rattle.graph.specs.GraphCircuit.{role_of, role_at}
use Rattle.graph_machine.specs.declared.net.Part.{Part}
use Rattle.cell_queue.specs.Held.{Holding, cell_of}
use Rattle.graph_machine.specs.Wired.{Wired}
use Rattle.graph_machine.specs.Playing.{reads_in}

-- what a key shows
abbrev pub seen_in : Wired → Holding → ℕ → ℕ
seen_in w h key = seen_at (role_at (node_at w.nodes key)) (reads_in w) key (cell_of h.cells key)

-- The state of a node: that of a Constant is its own, and that of every other one is in its cell.
abbrev pub state_by : Option Component → ℕ → Cell → ℕ
state_by None state cell = state
state_by (Some component) state cell = cell.value

abbrev pub node_state : Option Node → Cell → Option ℕ
node_state None cell = None
node_state (Some node) cell = Some (state_by (role_of node.kind) node.state cell)

abbrev pub part_state : Option Part → Cell → Option ℕ
part_state None cell = None
part_state (Some part) cell = Some (state_by (role_of part.kind) part.state cell)
