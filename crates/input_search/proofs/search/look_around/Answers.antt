use Rattle.input_search.specs.Wiring.{source_cells, fed_row, read_row}
use Rattle.input_search.proofs.Gathered.{gathers_more, cells_more}
use Rattle.input_search.proofs.search.look_around.Goals as goal

pub loop-wire-preserved : goal.loop-wire-preserved
loop-wire-preserved c = record {
  wiring = c.in_ok-look_at.ensures.wiring;
  fed = gathers_more (fed_row c.args.build.now) c.args.wires.now c.loop-wire.wire-index c.args.met.now c.loop-wire.met c.look_at.new.met c.args.next.now.items c.loop-wire.next.items c.look_at.new.next.items
      c.loop-wire-test.true c.loop-wire.invariant.fed c.in_ok-look_at.ensures.fed;
  read = cells_more (source_cells c.args.build.now) (read_row c.args.build.now) c.args.wires.now c.loop-wire.wire-index c.args.linked.now c.loop-wire.linked c.look_at.new.linked c.args.cells.now.items c.loop-wire.cells.items
      c.look_at.new.cells.items c.loop-wire-test.true c.loop-wire.invariant.read c.in_ok-look_at.ensures.read;
}
