use Rattle.std.proofs.Common.{◌≡◌, ◌<◌, ℕ, length, take, slice_index}
use Rattle.std.specs.Prelude.{count_by}
use Rattle.cell_counts.specs.Held.{counts_at}
use Rattle.cell_counts.proofs.cells.Cells.new.Given as goal

abbrev pub invariant-loop-cell : goal.invariant-loop-cell
invariant-loop-cell l = record {
  long : length l.counts.items ≡ 64;
  counted : (slot : ℕ) → slot < 64 → slice_index l.counts.items slot ≡ count_by (counts_at slot) (take l.cell-index l.cell-items);
}
