use Rattle.std.proofs.Common.{◌≡◌, ℕ, [], length, map}
use Rattle.graph_machine.specs.Counted.{row}
use Rattle.graph_machine.proofs.links.Rows.new.Given as goal

abbrev pub invariant-loop : goal.invariant-loop
invariant-loop l = record {
  count : length l.rows.items ≡ l.counter;
  none : (from : ℕ) → row (map (λ row. row.items) l.rows.items) from ≡ [];
}
