use Rattle.std.proofs.Common.{refl, sym, ◌∙◌, arith}
use Rattle.power_rules.specs.World.{world_circuit}
use Rattle.replay_engine.specs.Running.{state_in, HasFired}
use Rattle.report.specs.declared.OrderKind.TheVariants.{Form}
use Rattle.world_order.specs.LineForms.{place_named}
use Rattle.world_order.proofs.Firings.{no_firing, names_of, named_wrong, firing_some, firing_read}
use Rattle.world_order.proofs.tick.take_firing.Goals as goal

pub returns-in_default-clause-refused : goal.returns-in_default-clause-refused
returns-in_default-clause-refused c =
    let w = c.args.replay.now in
    no_firing (world_circuit w.plan w.marks) (state_in w) (HasFired w) c.args.text.now c.args.front.now c.bad-in_default.result Form c.requires.front c.bad-in_default.ensures
    (sym c.is_unended.ensures ∙ c.if-is_unended.false, c.fire_line.ensures.none c.in_default.is)

pub returns-in-Ok-clause-ok : goal.returns-in-Ok-clause-ok
returns-in-Ok-clause-ok c =
    let w = c.args.replay.now in
    firing_read (world_circuit w.plan w.marks) w c.fire_named.new.replay c.args.text.now c.args.front.now _ c.in-Some.fire c.requires.front c.in-Some.ensures.some c.in-Ok.ensures.ok refl

pub returns-in-Ok-clause-on : goal.returns-in-Ok-clause-on
returns-in-Ok-clause-on c = omega (arith, firing_some _ c.in-Some.fire c.in-Some.ensures.some)

pub returns-in-Err-clause-refused : goal.returns-in-Err-clause-refused
returns-in-Err-clause-refused c =
    let w = c.args.replay.now in
    no_firing (world_circuit w.plan w.marks) (state_in w) (HasFired w) c.args.text.now c.args.front.now c.bad-in-Err.result c.in-Err.kind c.requires.front c.bad-in-Err.ensures
    (named_wrong (world_circuit w.plan w.marks) (state_in w) (HasFired w) _ (place_named c.in-Some.fire) c.in-Err.kind (sym c.is_unended.ensures ∙ c.if-is_unended.false) (names_of _ c.in-Some.fire c.in-Some.ensures.some) c.in-Err.ensures.refused)
