use Rattle.std.proofs.Common.{◌≡◌, ◌<◌, ℕ, length, get_or, None}
use Rattle.graph.specs.Graph.{node_at}
use Rattle.graph_machine.specs.Wired.{part_at}
use Rattle.graph_machine.proofs.wiring.parts_of.Given as goal

abbrev pub invariant-loop-key : goal.invariant-loop-key
invariant-loop-key l = record {
  count : length l.parts.items ≡ l.key;
  kept : (key : ℕ) → key < l.key → get_or l.parts.items key None ≡ part_at (node_at l.graph.nodes key);
}
