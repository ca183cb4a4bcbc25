use Rattle.build.specs.Near.{near_next}
use Rattle.wiring.proofs.taps.push_back_taps.Goals as goal

pub push_strong_taps-requires : goal.push_strong_taps-requires
push_strong_taps-requires c = near_next c.beside-neighbour.result c.args.side c.args.reader c.args.build.now c.beside-neighbour.ensures c.requires c.width.ensures.narrow
