use Rattle.std.proofs.Common.{sym, subst}
use Rattle.std.specs.Prelude.{OnOk, IfErr}
use Rattle.circuit.specs.declared.Step.{Step}
use Rattle.power_rules.specs.World.{world_circuit}
use Rattle.replay_engine.specs.Running.{state_in}
use Rattle.world_order.specs.Reading.{IsBadStep, ReadsStep}
use Rattle.world_order.proofs.Playing.{on_ok_holds, on_ok_then, if_err_then, click_reads, click_wrong}
use Rattle.world_order.proofs.Ticking.{world_same}
use Rattle.world_order.proofs.checking.take_step.Goals as goal

pub returns-in-Ok-clause-ok : goal.returns-in-Ok-clause-ok
returns-in-Ok-clause-ok c =
    let w = c.args.replay.now in
    let new = c.click.new.self in
    subst (λ (step : Step). OnOk c.take_view.result (ReadsStep (world_circuit w.plan w.marks) step (state_in w) (state_in new) c.args.text.now c.args.front.now c.take_view.new.front)) (sym c.in-Click.is)
    (on_ok_then c.take_view.result _ _
    (click_reads w.plan w.marks (state_in w) new c.in-Click.pos c.in-Click.click c.args.text.now c.args.front.now (world_circuit new.plan new.marks) (world_same new.plan w.plan new.marks w.marks c.click.ensures.plan c.click.ensures.marks)
    c.of_click.result c.of_click.ensures c.in-Ok.ensures.taken c.take_view.new.front) c.take_view.ensures.ok)

pub returns-in-Ok-clause-none : goal.returns-in-Ok-clause-none
returns-in-Ok-clause-none c = on_ok_holds c.take_view.result _ (c.click.ensures.none c.requires.none)

pub returns-in-Ok-clause-refused : goal.returns-in-Ok-clause-refused
returns-in-Ok-clause-refused c =
    let w = c.args.replay.now in
    let new = c.click.new.self in
    subst (λ (step : Step). IfErr c.take_view.result (IsBadStep w.plan w.marks step (state_in w) c.args.text.now c.args.front.now)) (sym c.in-Click.is)
    (if_err_then c.take_view.result _ _
    (click_wrong w.plan w.marks (state_in w) new c.in-Click.pos c.in-Click.click c.args.text.now c.args.front.now (world_circuit new.plan new.marks) (world_same new.plan w.plan new.marks w.marks c.click.ensures.plan c.click.ensures.marks)
    c.of_click.result c.of_click.ensures c.in-Ok.ensures.taken) c.take_view.ensures.refused)
