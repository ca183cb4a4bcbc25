use Rattle.wire_shape.specs.WirePlaces.{near_second}
use Rattle.wire_shape.proofs.feeding.fed_from_below.Goals as goal

pub beside-below-requires : goal.beside-below-requires
beside-below-requires c = near_second c.beside-neighbour.result c.args.side c.args.pos c.args.build.now c.beside-neighbour.ensures c.requires c.width.ensures.narrow
