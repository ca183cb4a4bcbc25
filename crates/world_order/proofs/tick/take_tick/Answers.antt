use Rattle.std.proofs.Common.{refl, sym, ◌∙◌}
use Rattle.circuit.specs.Circuit.{later}
use Rattle.power_rules.specs.World.{world_circuit}
use Rattle.replay_engine.specs.Running.{state_in}
use Rattle.world_order.specs.Reading.{IsBadTick}
use Rattle.world_order.proofs.Pieces.{err_holds}
use Rattle.world_order.proofs.Ticking.{world_same, quiet_as, tick_left, tick_view, tick_whole}
use Rattle.world_order.proofs.tick.take_tick.Goals as goal

pub returns-then-has_left-clause-refused : goal.returns-then-has_left-clause-refused
returns-then-has_left-clause-refused c =
    let w = c.args.replay.now in
    let one = c.advance.new.self in
    let two = c.take_firings.new.replay in
    let first = c.advance.ensures in
    let then = c.take_firings.ensures in
    tick_left w.plan w.marks (state_in w) one two c.args.text.now c.args.front.now c.take_firings.new.front
    (world_circuit two.plan two.marks) (world_same two.plan w.plan two.marks w.marks (then.plan ∙ first.plan) (then.marks ∙ first.marks)) first.later
    (world_circuit one.plan one.marks) (world_same one.plan w.plan one.marks w.marks first.plan first.marks) c.in_ok-take_firings.ensures.ok
    c.bad-then-has_left.result c.bad-then-has_left.ensures (sym c.is_unended.ensures ∙ c.if-is_unended.false) c.in_ok-take_firings.ensures.last (c.has_left.ensures.left c.if-has_left.true)

pub returns-in_err-take_view-clause-refused : goal.returns-in_err-take_view-clause-refused
returns-in_err-take_view-clause-refused c =
    let w = c.args.replay.now in
    let one = c.advance.new.self in
    let two = c.take_firings.new.replay in
    let first = c.advance.ensures in
    let then = c.take_firings.ensures in
    let bad = c.in_err-take_view.field-0.0 in
    err_holds c.from_residual-in_err-take_view.result bad (IsBadTick w.plan w.marks (later (state_in w)) c.args.text.now c.args.front.now) c.from_residual-in_err-take_view.ensures.1
    (tick_view w.plan w.marks (state_in w) one two c.args.text.now c.args.front.now c.take_firings.new.front
    (world_circuit two.plan two.marks) (world_same two.plan w.plan two.marks w.marks (then.plan ∙ first.plan) (then.marks ∙ first.marks)) first.later
    (world_circuit one.plan one.marks) (world_same one.plan w.plan one.marks w.marks first.plan first.marks) c.in_ok-take_firings.ensures.ok
    bad c.in_ok-take_firings.ensures.last (c.has_left.ensures.none c.if-has_left.false) c.in_err-take_view.ensures.refused)

pub returns-clause-ok : goal.returns-clause-ok
returns-clause-ok c =
    let w = c.args.replay.now in
    let one = c.advance.new.self in
    let two = c.take_firings.new.replay in
    let first = c.advance.ensures in
    let then = c.take_firings.ensures in
    tick_whole w.plan w.marks (state_in w) one two c.args.text.now c.args.front.now c.take_firings.new.front
    (world_circuit two.plan two.marks) (world_same two.plan w.plan two.marks w.marks (then.plan ∙ first.plan) (then.marks ∙ first.marks)) first.later
    (world_circuit one.plan one.marks) (world_same one.plan w.plan one.marks w.marks first.plan first.marks) c.in_ok-take_firings.ensures.ok
    c.take_view.new.front _ (c.has_left.ensures.none c.if-has_left.false) c.in_ok-take_view.ensures.ok refl

pub returns-clause-none : goal.returns-clause-none
returns-clause-none c =
    let w = c.args.replay.now in
    let one = c.advance.new.self in
    let two = c.take_firings.new.replay in
    let first = c.advance.ensures in
    let then = c.take_firings.ensures in
    quiet_as w.plan w.marks (state_in w) one two c.args.text.now c.args.front.now c.take_firings.new.front
    (world_circuit two.plan two.marks) (world_same two.plan w.plan two.marks w.marks (then.plan ∙ first.plan) (then.marks ∙ first.marks)) first.later
    (world_circuit one.plan one.marks) (world_same one.plan w.plan one.marks w.marks first.plan first.marks) c.in_ok-take_firings.ensures.ok
    (c.has_left.ensures.none c.if-has_left.false)
