use Rattle.wire_shape.specs.WirePlaces.{near_second}
use Rattle.wire_shape.proofs.connections.connection.Goals as goal

pub beside-requires-then-not-solid_at : goal.beside-requires-then-not-solid_at
beside-requires-then-not-solid_at c = near_second c.beside-neighbour.result c.args.side c.args.pos c.args.build.now c.beside-neighbour.ensures c.requires.wire c.width.ensures.narrow

pub beside-requires-then-not-solid_at-2 : goal.beside-requires-then-not-solid_at-2
beside-requires-then-not-solid_at-2 c = near_second c.beside-neighbour.result c.args.side c.args.pos c.args.build.now c.beside-neighbour.ensures c.requires.wire c.width.ensures.narrow
