use Rattle.std.proofs.Common.{◌≡◌, ◌<◌}
use Rattle.graph_machine.specs.Playing.{Attends}
use Rattle.graph_machine.proofs.events.attend_all.Given as goal

abbrev pub invariant-loop-key : goal.invariant-loop-key
invariant-loop-key l = record {
  time : l.cells.time ≡ l.initial.cells.time;
  all : Attends l.net l.initial.cells.time (λ key. key < l.key) l.initial.cells.cells l.cells.cells;
}
