use Rattle.std.proofs.Common.{sym, ◌∙◌}
use Rattle.power_rules.specs.World.{world_circuit}
use Rattle.replay_engine.specs.Running.{state_in}
use Rattle.world_order.specs.Reading.{IsBadTick}
use Rattle.world_order.proofs.Pieces.{err_holds}
use Rattle.world_order.proofs.Ticking.{world_same, begun_on, firing_as, firing_bad}
use Rattle.world_order.proofs.tick.take_firings.Goals as goal

pub loop-front-preserved : goal.loop-front-preserved
loop-front-preserved c =
    let w = c.args.replay.now in
    let old = c.loop-front.replay in
    let inv = c.loop-front.invariant in
    let same = world_same old.plan w.plan old.marks w.marks inv.plan inv.marks in
    record {
      begun = begun_on (world_circuit w.plan w.marks) (state_in w) old c.take_firing.new.replay c.args.text.now c.args.front.now c.loop-front.front c.take_firing.new.front inv.begun
          (firing_as (world_circuit old.plan old.marks) (world_circuit w.plan w.marks) old c.take_firing.new.replay c.args.text.now c.loop-front.front c.take_firing.new.front same c.in_ok-take_firing.ensures.ok);
      plan = c.take_firing.ensures.plan ∙ inv.plan;
      marks = c.take_firing.ensures.marks ∙ inv.marks;
      time = c.take_firing.ensures.time ∙ inv.time;
    }

pub returns-in_err-take_firing-clause-refused : goal.returns-in_err-take_firing-clause-refused
returns-in_err-take_firing-clause-refused c =
    let w = c.args.replay.now in
    let old = c.loop-front.replay in
    let inv = c.loop-front.invariant in
    let bad = c.in_err-take_firing.field-0.0 in
    err_holds c.from_residual.result bad (IsBadTick w.plan w.marks (state_in w) c.args.text.now c.args.front.now) c.from_residual.ensures.1
    (firing_bad w.plan w.marks (world_circuit old.plan old.marks) (state_in w) old c.args.text.now c.args.front.now c.loop-front.front bad (world_same old.plan w.plan old.marks w.marks inv.plan inv.marks) inv.begun
    (sym c.is_fire.ensures ∙ c.loop-front-test.true) c.in_err-take_firing.ensures.refused)
