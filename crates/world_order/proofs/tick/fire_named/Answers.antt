use Rattle.std.proofs.Common.{sym, ◌∙◌, subst, refl}
use Rattle.replay_engine.specs.Running.{HasFired, state_in}
use Rattle.power_rules.specs.World.{world_circuit}
use Rattle.report.specs.declared.OrderKind.{OrderKind}
use Rattle.world_order.specs.LineForms.{place_named}
use Rattle.world_order.specs.Reading.{IsNotNow}
use Rattle.world_order.proofs.Naming.{far_not_now, refused}
use Rattle.world_order.proofs.tick.fire_named.Goals as goal

pub returns-in_default-clause-refused : goal.returns-in_default-clause-refused
returns-in_default-clause-refused c = far_not_now c.args.replay.now c.requires.whole c.requires.late c.args.fire (sym c.place_of.ensures ∙ c.in_default.is)

pub returns-in-Err-clause-refused : goal.returns-in-Err-clause-refused
returns-in-Err-clause-refused c =
    let w = c.args.replay.now in
    subst (λ (kind : OrderKind). IsNotNow (world_circuit w.plan w.marks) (state_in w) (HasFired w) (place_named c.args.fire) kind) (sym c.kind_of.ensures)
    (refused w c.args.fire c.in-Some.pos c.in-Err.why (sym c.place_of.ensures ∙ c.in-Some.is) (c.in-Err.ensures.refused c.in-Err.why refl))
