use Rattle.std.proofs.Common.{◌≡◌, ◌<◌, ℕ, None}
use Rattle.tick_queue.specs.Ticks.{first_at}
use Rattle.cell_queue.proofs.cells.take_first.Given as goal

abbrev pub invariant-loop-priority : goal.invariant-loop-priority
invariant-loop-priority g l = record {
  ticks : g.Q.Queue.ticks l.queue ≡ g.Q.Queue.ticks l.initial.queue;
  spare : g.Q.Queue.spare l.queue ≡ g.Q.Queue.spare l.initial.queue;
  time : g.Q.Queue.time l.queue ≡ g.Q.Queue.time l.initial.queue;
  none : (priority : ℕ) → priority < l.priority → first_at (g.Q.Queue.time l.initial.queue) priority (g.Q.Queue.ticks l.initial.queue) ≡ None;
}
