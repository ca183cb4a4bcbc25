use Rattle.std.proofs.Common.{take}
use Rattle.std.specs.List.{flat_map}
use Rattle.input_search.specs.Rows.{Gathers, GathersCells}
use Rattle.input_search.specs.Wiring.{source_cells, fed_row, read_row, IsWiring}
use Rattle.input_search.proofs.search.look_around.Given as goal

abbrev pub invariant-loop-wire : goal.invariant-loop-wire
invariant-loop-wire l = record {
  wiring : IsWiring l.build l.wiring;
  fed : Gathers (flat_map (fed_row l.build) (take l.wire-index l.wires)) l.fn.met l.met l.fn.next.items l.next.items;
  read : GathersCells (source_cells l.build) (flat_map (read_row l.build) (take l.wire-index l.wires)) l.fn.linked l.linked l.fn.cells.items l.cells.items;
}
