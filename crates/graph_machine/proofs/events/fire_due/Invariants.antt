use Rattle.std.proofs.Common.{◌≡◌, ◌≤◌, ◌+◌, length}
use Rattle.graph_machine.specs.Playing.{held_state, IsPlaying, AllStill, due_count}
use Rattle.graph_machine.specs.Screens.{AreFaced}
use Rattle.graph_machine.proofs.TickSteps.{FiredSoFar}
use Rattle.graph_machine.proofs.events.fire_due.Given as goal

abbrev pub invariant-loop-key : goal.invariant-loop-key
invariant-loop-key g l = record {
  nodes : l.net.nodes ≡ l.initial.net.nodes;
  time : l.cells.time ≡ l.initial.cells.time;
  playing : IsPlaying l.net l.cells;
  still : AllStill l.net l.cells;
  screen : l.screen.count ≡ length l.net.outs;
  faced : AreFaced l.net l.cells.cells l.screen;
  keys : l.screen.keys ≡ l.initial.screen.keys;
  fired : FiredSoFar l.initial.net.nodes (held_state l.initial.cells) (held_state l.cells) l.initial.fired.keys l.fired.keys l.initial.steps l.steps;
  spare : due_count l.initial.net.nodes (held_state l.cells) ≤ l.fired.spare;
  room : l.fired.room ≡ l.initial.fired.room;
  few : length l.fired.keys + due_count l.initial.net.nodes (held_state l.cells) ≤ length l.initial.fired.keys + due_count l.initial.net.nodes (held_state l.initial.cells);
}

abbrev pub decreases-loop-key : goal.decreases-loop-key
decreases-loop-key g l = due_count l.initial.net.nodes (held_state l.cells)
