use Rattle.std.proofs.Common.{◌≡◌, ℕ, length, take}
use Rattle.std.specs.Prelude.{◌||◌}
use Rattle.input_search.specs.CellLists.{has_cell}
use Rattle.input_search.specs.Rows.{is_met}
use Rattle.input_search.proofs.wires.put_all.Given as goal

abbrev pub invariant-loop-wire : goal.invariant-loop-wire
invariant-loop-wire l = record {
  size : length l.far.items ≡ length l.fn.far.items;
  far : (number : ℕ) → is_met l.far.items number ≡ (is_met l.fn.far.items number || has_cell (take l.wire-index l.wires) number);
}
