use Rattle.std.proofs.Common.{◌≡◌, ◌+◌}
use Rattle.graph_machine.specs.Wired.{targets_in}
use Rattle.graph_machine.specs.Playing.{Attends, IsEarly}
use Rattle.graph_machine.specs.Screens.{Refaced}
use Rattle.graph_machine.proofs.events.attend_targets.Given as goal

abbrev pub invariant-loop-index : goal.invariant-loop-index
invariant-loop-index g l = record {
  time : l.cells.time ≡ l.fn.cells.time;
  all : Attends l.net l.fn.cells.time (IsEarly (targets_in l.net.targets l.key) l.index) l.fn.cells.cells l.cells.cells;
  refaced : Refaced l.net l.fn.cells.cells l.cells.cells l.fn.screen l.screen (IsEarly (targets_in l.net.targets l.key) l.index);
  read : l.steps ≡ l.fn.steps + l.index;
}
