use Rattle.std.proofs.Common.{refl}
use Rattle.power_rules.specs.Standing.{stands_inside}
use Rattle.power_rules.proofs.power.locked.Goals as goal

pub lock_power-requires : goal.lock_power-requires
lock_power-requires g c = stands_inside c.args.build.now c.args.pos _ c.in-Repeater.ensures.value refl
