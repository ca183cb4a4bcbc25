use Rattle.std.proofs.Common.{refl}
use Rattle.power_rules.specs.Standing.{stands_inside}
use Rattle.power_rules.proofs.power.side_power.Goals as goal

pub lateral_power-requires : goal.lateral_power-requires
lateral_power-requires g c = stands_inside c.args.build.now c.args.pos _ c.in-Comparator.ensures.value refl
