use Rattle.wire_shape.specs.WirePlaces.{wire_inside}
use Rattle.input_search.proofs.wires.push_read_cells.Goals as goal

pub push_sources-requires : goal.push_sources-requires
push_sources-requires c = wire_inside c.args.build.now c.args.wire c.requires
