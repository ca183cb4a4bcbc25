use Rattle.std.proofs.Common.{◌≡◌}
use Rattle.input_search.specs.Wiring.{wires_below, sources_below}
use Rattle.input_search.proofs.wires.Wiring.new.Given as goal

abbrev pub invariant-loop-cell : goal.invariant-loop-cell
invariant-loop-cell l = record {
  wires : l.wires.items ≡ wires_below l.build l.cell;
  cells : l.cells ≡ wires_below l.build l.cell;
  sources : l.sources ≡ sources_below l.build l.cell;
}
