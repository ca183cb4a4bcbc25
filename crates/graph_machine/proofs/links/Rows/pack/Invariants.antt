use Rattle.std.proofs.Common.{◌≡◌, length, map, take}
use Rattle.graph_machine.specs.Packed.{rows_from, start_at, IsPacked}
use Rattle.graph_machine.proofs.links.Rows.pack.Given as goal

abbrev pub invariant-loop-row : goal.invariant-loop-row
invariant-loop-row l = record {
  count : length l.ends.items ≡ l.row-index;
  packed : IsPacked l.ends.items l.links.items;
  last : start_at 0 l.ends.items (length l.ends.items) ≡ length l.links.items;
  rows : rows_from 0 l.ends.items l.links.items ≡ map (λ row. row.items) (take l.row-index l.row-items);
}
