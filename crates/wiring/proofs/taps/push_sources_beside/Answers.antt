use Rattle.build.specs.Near.{near_next}
use Rattle.wiring.proofs.taps.push_sources_beside.Goals as goal

pub push_strong_sources-requires : goal.push_strong_sources-requires
push_strong_sources-requires c = near_next c.beside-neighbour.result c.args.side c.args.reader c.args.build.now c.beside-neighbour.ensures c.requires c.width.ensures.narrow
