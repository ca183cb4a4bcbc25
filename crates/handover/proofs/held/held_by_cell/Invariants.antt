use Rattle.std.proofs.Common.{◌≡◌, ◌++◌, length}
use Rattle.build.specs.Plan.{volume}
use Rattle.graph_machine.specs.Playing.{state_in}
use Rattle.node_arena.specs.Items.{keys_of}
use Rattle.handover.specs.HeldByCell.{AreTimely}
use Rattle.handover.proofs.Popped.{AreNoted, popped}
use Rattle.handover.proofs.held.held_by_cell.Given as goal

abbrev pub invariant-loop-key : goal.invariant-loop-key
invariant-loop-key l = record {
  whole : length l.held.items ≡ volume l.build;
  split : l.keys.items ++ popped l.graph.nodes l.keys.items ≡ keys_of l.graph.nodes;
  noted : AreNoted l.build l.graph.nodes (state_in l.machine) (popped l.graph.nodes l.keys.items) l.held.items;
  timely : AreTimely l.held.items;
}

abbrev pub decreases-loop-key : goal.decreases-loop-key
decreases-loop-key l = length l.keys.items
