use Rattle.std.proofs.Common.{◌≡◌, ◌<◌, ℕ, length}
use Rattle.graph.specs.Graph.{node_at}
use Rattle.graph.specs.GraphCircuit.{begin_at}
use Rattle.cell_queue.specs.Held.{cell_of}
use Rattle.graph_machine.proofs.wiring.begin_cells.Given as goal

abbrev pub invariant-loop-key : goal.invariant-loop-key
invariant-loop-key l = record {
  count : length l.cells.items ≡ l.key;
  begin : (key : ℕ) → key < l.key → cell_of l.cells.items key ≡ begin_at (node_at l.graph.nodes key);
}
