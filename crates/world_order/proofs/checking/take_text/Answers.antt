use Rattle.std.proofs.Common.{◌≡◌, ℕ, List, [], ◌∷◌, length, refl, sym, ◌∙◌, ap, subst, arith}
use Rattle.circuit.specs.declared.Step.{Step}
use Rattle.circuit.specs.Circuit.{start}
use Rattle.circuit.specs.Shows.{steps_of}
use Rattle.circuit.specs.Taken.{EachTaken}
use Rattle.build.specs.Outputs.{outputs}
use Rattle.power_rules.specs.World.{world_circuit}
use Rattle.replay_engine.specs.Running.{state_in}
use Rattle.script.specs.StepsLeft.{steps_left}
use Rattle.world_order.specs.Reading.{IsBadFrom, IsNoLine, ReadsOn, header_lines}
use Rattle.world_order.proofs.Headings.{header_joined, header_lined}
use Rattle.world_order.proofs.Pieces.{err_holds}
use Rattle.world_order.proofs.Playing.{head_is, head_lined, start_is, zero_time, first_is, none_at_start, step_front, step_as, bad_step_as, none_as, reading_as}
use Rattle.world_order.proofs.Scripts.{length-steps_of, clicks_taken, taken_after}
use Rattle.world_order.proofs.Steps.{zero_front, start_read, header_wrong, first_wrong, step_read, step_bad, end_read, end_bad}
use Rattle.world_order.proofs.Ticking.{world_same}
use Rattle.world_order.proofs.checking.take_text.Goals as goal

pub take_header-requires-clause-lined : goal.take_header-requires-clause-lined
take_header-requires-clause-lined c = let w = c.args.replay.now in header_lined (outputs w.plan w.marks) c.args.header.now c.requires.ready.header c.requires.ready.lined

pub returns-in_err-take_header-clause-refused : goal.returns-in_err-take_header-clause-refused
returns-in_err-take_header-clause-refused c =
    let w = c.args.replay.now in
    let script = c.args.script.now in
    let bad = c.in_err-take_header.field-0.0 in
    let lined = head_lined w c.args.header.now c.args.values.now c.args.line.now c.requires.ready script.marks c.requires.marks in
    let is = head_is w c.args.header.now c.args.values.now c.args.line.now c.requires.ready script.marks c.requires.marks in
    err_holds c.from_residual.result bad (IsBadFrom w.plan script c.args.text.now) c.from_residual.ensures.1
    (header_wrong w.plan script c.args.text.now bad
    (c.in_err-take_header.ensures.refused (header_lines (outputs w.plan script.marks)) lined (is ∙ header_joined (outputs w.plan script.marks))))

pub returns-in_err-take_view-clause-refused : goal.returns-in_err-take_view-clause-refused
returns-in_err-take_view-clause-refused c =
    let w = c.args.replay.now in
    let script = c.args.script.now in
    let bad = c.in_err-take_view.field-0.0 in
    let is = head_is w c.args.header.now c.args.values.now c.args.line.now c.requires.ready script.marks c.requires.marks in
    let first = first_is w c.args.header.now c.args.values.now c.args.line.now c.requires.ready script.marks c.requires.marks in
    err_holds c.from_residual-in_err-take_view.result bad (IsBadFrom w.plan script c.args.text.now) c.from_residual-in_err-take_view.ensures.1
    (first_wrong w.plan script c.args.text.now c.take_header.new.front bad
    (subst (λ (head : List ℕ). ReadsOn c.args.text.now zero_front c.take_header.new.front head 0 0) is c.in_ok-take_header.ensures.ok)
    (subst (λ (line : List ℕ). IsNoLine c.args.text.now c.take_header.new.front line bad) first c.in_err-take_view.ensures.refused))

pub loop-step-init : goal.loop-step-init
loop-step-init c =
    let w = c.args.replay.now in
    let script = c.args.script.now in
    let acts = script.acts in
    let is = head_is w c.args.header.now c.args.values.now c.args.line.now c.requires.ready script.marks c.requires.marks in
    let first = first_is w c.args.header.now c.args.values.now c.args.line.now c.requires.ready script.marks c.requires.marks in
    let at_start = start_is w c.args.header.now c.args.values.now c.args.line.now c.requires.ready script.marks c.requires.marks in
    let zero = zero_time w c.args.header.now c.args.values.now c.args.line.now c.requires.ready script.marks c.requires.marks in
    let left : steps_left c.into_iter-step-iterator.result ≡ steps_of acts = cc in
    record {
      plan = refl;
      marks = refl;
      front = c.in_ok-take_view.ensures.ok.is;
      reading = reading_as w.plan script c.args.text.now (start (world_circuit w.plan script.marks)) (state_in w) (steps_of acts) (steps_left c.into_iter-step-iterator.result) c.take_view.new.front (sym at_start) (sym left)
          (start_read w.plan script c.args.text.now c.take_header.new.front c.take_view.new.front
          (subst (λ (head : List ℕ). ReadsOn c.args.text.now zero_front c.take_header.new.front head 0 0) is c.in_ok-take_header.ensures.ok)
          (subst (λ (line : List ℕ). ReadsOn c.args.text.now c.take_header.new.front c.take_view.new.front line 0 0) first c.in_ok-take_view.ensures.ok));
      none = none_at_start w c.args.header.now c.args.values.now c.args.line.now c.requires.ready script.marks c.requires.marks;
      taken = subst (EachTaken (world_circuit w.plan w.marks)) (sym left) (clicks_taken w.plan w.marks acts c.requires.script.clicks);
      early = omega (arith, ap (λ (steps : List Step). length steps) left, length-steps_of acts, c.steps-step-items.ensures.short.few_acts, c.steps-step-items.ensures.short.few_ticks, zero);
      room = c.in_ok-take_view.ensures.room;
    }

pub take_step-requires-clause-none : goal.take_step-requires-clause-none
take_step-requires-clause-none c =
    let w = c.args.replay.now in
    let old = c.loop-step.replay in
    let inv = c.loop-step.invariant in
    none_as (world_circuit w.plan w.marks) (world_circuit old.plan old.marks) (state_in old) (sym (world_same old.plan w.plan old.marks w.marks inv.plan inv.marks)) inv.none

pub loop-step-preserved : goal.loop-step-preserved
loop-step-preserved c =
    let w = c.args.replay.now in
    let script = c.args.script.now in
    let old = c.loop-step.replay in
    let new = c.take_step.new.replay in
    let inv = c.loop-step.invariant in
    let left : steps_left c.loop-step.step-iterator ≡ c.in-Some.step ∷ steps_left c.next.new.self = c.in-Some.ensures.steps in
    let same = world_same old.plan w.plan old.marks w.marks inv.plan inv.marks in
    let ok = c.in_ok-take_step.ensures.ok in
    record {
      plan = c.take_step.ensures.plan ∙ inv.plan;
      marks = c.take_step.ensures.marks ∙ inv.marks;
      front = step_front (world_circuit old.plan old.marks) c.in-Some.step (state_in old) (state_in new) c.args.text.now c.loop-step.front c.take_step.new.front ok;
      reading = step_read w.plan script c.args.text.now (state_in old) (state_in new) c.in-Some.step (steps_left c.next.new.self) c.loop-step.front c.take_step.new.front
          (reading_as w.plan script c.args.text.now (state_in old) (state_in old) (steps_left c.loop-step.step-iterator) (c.in-Some.step ∷ steps_left c.next.new.self) c.loop-step.front refl left inv.reading)
          (step_as (world_circuit old.plan old.marks) (world_circuit w.plan script.marks) c.in-Some.step (state_in old) (state_in new) c.args.text.now c.loop-step.front c.take_step.new.front
          (world_same old.plan w.plan old.marks script.marks inv.plan (inv.marks ∙ c.requires.marks)) ok);
      none = none_as (world_circuit old.plan old.marks) (world_circuit w.plan w.marks) (state_in new) same c.in_ok-take_step.ensures.none;
      taken = taken_after (world_circuit w.plan w.marks) c.in-Some.step (steps_left c.next.new.self) (subst (EachTaken (world_circuit w.plan w.marks)) left inv.taken);
      early = omega (arith, inv.early, ap (λ (steps : List Step). length steps) left, c.take_step.ensures.time);
      room = c.take_step.ensures.room ∙ inv.room;
    }

pub returns-in_err-take_step-clause-refused : goal.returns-in_err-take_step-clause-refused
returns-in_err-take_step-clause-refused c =
    let w = c.args.replay.now in
    let script = c.args.script.now in
    let old = c.loop-step.replay in
    let inv = c.loop-step.invariant in
    let bad = c.in_err-take_step.field-0.0 in
    let left : steps_left c.loop-step.step-iterator ≡ c.in-Some.step ∷ steps_left c.next.new.self = c.in-Some.ensures.steps in
    err_holds c.from_residual-in_err-take_step.result bad (IsBadFrom w.plan script c.args.text.now) c.from_residual-in_err-take_step.ensures.1
    (step_bad w.plan script c.args.text.now (state_in old) c.in-Some.step (steps_left c.next.new.self) c.loop-step.front bad
    (reading_as w.plan script c.args.text.now (state_in old) (state_in old) (steps_left c.loop-step.step-iterator) (c.in-Some.step ∷ steps_left c.next.new.self) c.loop-step.front refl left inv.reading)
    (bad_step_as old.plan w.plan old.marks script.marks c.in-Some.step (state_in old) c.args.text.now c.loop-step.front bad inv.plan (inv.marks ∙ c.requires.marks) c.in_err-take_step.ensures.refused))

pub returns-in_err-take_end-clause-refused : goal.returns-in_err-take_end-clause-refused
returns-in_err-take_end-clause-refused c =
    let w = c.args.replay.now in
    let script = c.args.script.now in
    let old = c.loop-step.replay in
    let inv = c.loop-step.invariant in
    let bad = c.in_err-take_end.field-0.0 in
    let none : steps_left c.loop-step.step-iterator ≡ [] = c.in-None.ensures.steps.0 in
    err_holds c.from_residual-in_err-take_end.result bad (IsBadFrom w.plan script c.args.text.now) c.from_residual-in_err-take_end.ensures.1
    (end_bad w.plan script c.args.text.now (state_in old) c.loop-step.front bad
    (reading_as w.plan script c.args.text.now (state_in old) (state_in old) (steps_left c.loop-step.step-iterator) [] c.loop-step.front refl none inv.reading) c.in_err-take_end.ensures.refused)

pub returns-clause-ok : goal.returns-clause-ok
returns-clause-ok c =
    let w = c.args.replay.now in
    let script = c.args.script.now in
    let old = c.loop-step.replay in
    let inv = c.loop-step.invariant in
    let none : steps_left c.loop-step.step-iterator ≡ [] = c.in-None.ensures.steps.0 in
    end_read w.plan script c.args.text.now (state_in old) c.loop-step.front c.take_end.new.front
    (reading_as w.plan script c.args.text.now (state_in old) (state_in old) (steps_left c.loop-step.step-iterator) [] c.loop-step.front refl none inv.reading)
    c.in_ok-take_end.ensures.ok c.in_ok-take_end.ensures.tick c.in_ok-take_end.ensures.fires
