use Rattle.std.proofs.Common.{ap, ◌∙◌}
use Rattle.build.specs.Plan.{block_at}
use Rattle.power_rules.specs.Power.{or_direct, or_far}
use Rattle.wiring.specs.declared.parts.Part.{Part}
use Rattle.wiring.specs.Things.{spot}
use Rattle.wiring.proofs.PartLaws.{strengths}
use Rattle.world_engine.proofs.parts.strengthened.Goals as goal

pub returns : goal.returns
returns c =
    let m = c.args.things.now in
    c.direct_or.ensures
    ∙ ap (λ (part : Part). or_direct part.direct (or_far part.far c.args.power)) c.part_of-part.ensures
    ∙ strengths m.plan (spot m c.args.number) (block_at m.plan (spot m c.args.number)) c.args.power
