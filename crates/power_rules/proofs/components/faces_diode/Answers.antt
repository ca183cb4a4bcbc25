use Rattle.std.proofs.Common.{refl}
use Rattle.power_rules.specs.Standing.{stands_inside}
use Rattle.power_rules.proofs.components.faces_diode.Goals as goal

pub faces_from-requires : goal.faces_from-requires
faces_from-requires c = stands_inside c.args.build.now c.args.pos _ c.in-Repeater.ensures.value refl

pub faces_from-requires-in-Comparator : goal.faces_from-requires-in-Comparator
faces_from-requires-in-Comparator c = stands_inside c.args.build.now c.args.pos _ c.in-Comparator.ensures.value refl
