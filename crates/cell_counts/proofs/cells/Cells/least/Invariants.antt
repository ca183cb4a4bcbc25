use Rattle.std.proofs.Common.{◌≡◌, ◌<◌, ℕ, slice_index}
use Rattle.cell_counts.specs.Held.{slot_of}
use Rattle.cell_counts.proofs.cells.Cells.least.Given as goal

abbrev pub invariant-loop-priority : goal.invariant-loop-priority
invariant-loop-priority l = record {
  none : (p : ℕ) → p < l.priority → slice_index l.self-inside.counts.items (slot_of l.self-inside.time p) ≡ 0;
}
