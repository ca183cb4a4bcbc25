use Rattle.std.proofs.Common.{◌≡◌, ◌+◌, ◌≤◌, ℕ, length, take}
use Rattle.std.specs.Prelude.{count_by}
use Rattle.cell_queue.specs.Held.{cell_of, waits, ticks_of, ticks_for}
use Rattle.cell_queue.proofs.cells.add_ticks.Given as goal

abbrev pub invariant-loop-key : goal.invariant-loop-key
invariant-loop-key g l = record {
  queued : (key : ℕ) → ticks_for key (g.Q.Queue.ticks l.queue) ≡ ticks_of key (cell_of (take l.key l.cells) key);
  room : length l.cells ≤ g.Q.Queue.spare l.queue + count_by waits (take l.key l.cells);
  time : g.Q.Queue.time l.queue ≡ g.Q.Queue.time l.initial.queue;
}
