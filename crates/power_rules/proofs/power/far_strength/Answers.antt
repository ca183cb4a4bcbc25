use Rattle.build.specs.Near.{near_two}
use Rattle.power_rules.proofs.power.far_strength.Goals as goal

pub beside-requires : goal.beside-requires
beside-requires c = near_two _ c.args.facing c.args.pos c.args.build.now c.beside-neighbour.ensures c.requires c.width.ensures.narrow
