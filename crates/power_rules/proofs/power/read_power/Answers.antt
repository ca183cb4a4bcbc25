use Rattle.build.specs.Near.{near_next}
use Rattle.power_rules.proofs.power.read_power.Goals as goal

pub charge-requires : goal.charge-requires
charge-requires g c = near_next _ c.args.side c.args.reader c.args.build.now c.beside-neighbour.ensures c.requires c.width.ensures.narrow
