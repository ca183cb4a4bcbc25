use Rattle.std.proofs.Common.{arith, ap, ◌∙◌}
use Rattle.build.specs.Plan.{in_box}
use Rattle.wiring.specs.Numbers.{spot_inside}
use Rattle.wiring.proofs.parts.parts_of.Goals as goal

pub part_at-requires : goal.part_at-requires
part_at-requires c =
    let m = c.args.things.now in
    ap (in_box m.plan) c.spot.ensures ∙ spot_inside m c.count-number-end.ensures.numbered c.loop-number.number (omega arith)
