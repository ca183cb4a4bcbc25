use Rattle.std.proofs.Common.{refl}
use Rattle.power_rules.specs.Standing.{stands_inside}
use Rattle.power_rules.proofs.power.back.Goals as goal

pub input-requires : goal.input-requires
input-requires g c = stands_inside c.args.build.now c.args.pos _ c.in-Repeater.ensures.value refl

pub measured-requires : goal.measured-requires
measured-requires g c = stands_inside c.args.build.now c.args.pos _ c.in-Comparator.ensures.value refl
