-- One turn more was had. Where none waits no step is left.
use Rattle.std.proofs.Common.{refl, sym, ◌∙◌, subst}
use Rattle.graph.specs.Graph.{Nodes}
use Rattle.graph.specs.Steps.{Coalesces}
use Rattle.pass_frame.specs.Frame.{Stays}
use Rattle.pass_frame.proofs.Sweeps.{took_ran}
use Rattle.coalesce.specs.Sweeps.{Sweep}
use Rattle.coalesce.proofs.SweepSteps.{sweeping_first, sweeping_on, sweeping_ends, none_done, none_rounds}
use Rattle.coalesce.proofs.TriedSteps.{ran_err, took_turn, twins_reached, turn_falls, none_left, others_wait, all_wait}
use Rattle.coalesce.proofs.WaitSteps.{few_left, few_none}
use Rattle.coalesce.proofs.sweep.take_all.Goals as goal

pub returns-in_err-keys-clause-ran : goal.returns-in_err-keys-clause-ran
returns-in_err-keys-clause-ran c = ran_err c.args.graph.now.nodes c.args.graph.now.nodes c.from_residual.result c.from_residual.ensures.0 Stays

pub returns-in_err-known-clause-ran : goal.returns-in_err-known-clause-ran
returns-in_err-known-clause-ran c = ran_err c.args.graph.now.nodes c.args.graph.now.nodes c.from_residual-in_err-known.result c.from_residual-in_err-known.ensures.0 Stays

pub add_all-requires : goal.add_all-requires
add_all-requires c = few_none c.args.graph.now.nodes c.new-waiting.result.numbers c.new-waiting.ensures.none c.new-waiting.ensures.few

pub returns-in_err-add_all-clause-ran : goal.returns-in_err-add_all-clause-ran
returns-in_err-add_all-clause-ran c = ran_err c.args.graph.now.nodes c.args.graph.now.nodes c.from_residual-in_err-add_all.result c.from_residual-in_err-add_all.ensures.0 Stays

pub loop-number-init : goal.loop-number-init
loop-number-init c = record {
  known = c.in_ok-known.ensures;
  wait = all_wait c.args.graph.now.nodes c.add_all.new.self.numbers c.deref-3.result.now (c.deref-3.ensures.value ∙ c.in_ok-keys.ensures) c.in_ok-add_all.ensures.all;
  few = c.in_ok-add_all.ensures.few;
  took = refl;
  sweeping = sweeping_first c.args.graph.now.nodes;
}

pub take_twins-requires-clause-wait : goal.take_twins-requires-clause-wait
take_twins-requires-clause-wait c = others_wait c.loop-number.graph.nodes c.loop-number.waiting.numbers c.next.new.self.numbers c.in-Some.number c.new.result (sym c.new.ensures) c.loop-number.invariant.wait c.in-Some.ensures.some

pub take_twins-requires-clause-few : goal.take_twins-requires-clause-few
take_twins-requires-clause-few c = few_left c.loop-number.graph.nodes c.loop-number.waiting.numbers c.next.new.self.numbers c.in-Some.number c.loop-number.invariant.few c.in-Some.ensures.some

pub returns-in_err-took-clause-ran : goal.returns-in_err-took-clause-ran
returns-in_err-took-clause-ran c =
    ran_err c.args.graph.now.nodes c.take_twins.new.graph.nodes c.from_residual-in_err-took.result c.from_residual-in_err-took.ensures.0
    (twins_reached c.args.graph.now.nodes c.loop-number.graph.nodes c.take_twins.new.graph.nodes c.loop-number.took c.take_twins.result c.loop-number.invariant.took c.take_twins.ensures.tried)

pub loop-number-smaller : goal.loop-number-smaller
loop-number-smaller c =
    turn_falls c.loop-number.graph.nodes c.take_twins.new.graph.nodes c.loop-number.waiting.numbers c.next.new.self.numbers c.take_twins.new.waiting.numbers c.in-Some.number c.in_ok-took.field-0 c.in-Some.ensures.some
    c.in_ok-took.ensures.tried c.in_ok-took.ensures.rest c.in_ok-took.ensures.few

pub loop-number-preserved : goal.loop-number-preserved
loop-number-preserved c = record {
  known = c.in_ok-took.ensures.known;
  wait = c.in_ok-took.ensures.wait;
  few = c.in_ok-took.ensures.few;
  took = took_turn c.args.graph.now.nodes c.loop-number.graph.nodes c.take_twins.new.graph.nodes c.loop-number.took c.in_ok-took.field-0 c.loop-number.invariant.took c.in_ok-took.ensures.tried;
  sweeping = sweeping_on c.args.graph.now.nodes c.loop-number.graph.nodes c.take_twins.new.graph.nodes c.loop-number.waiting.numbers c.loop-number.place c.in-Some.number c.loop-number.invariant.sweeping c.loop-number.invariant.wait c.in-Some.ensures.first
      (subst (λ key. (end : Nodes) → Sweep key 0 c.take_twins.new.graph.nodes end → Sweep key 0 c.loop-number.graph.nodes end) c.new.ensures c.in_ok-took.ensures.sweep);
}

pub returns-clause-ran : goal.returns-clause-ran
returns-clause-ran c = took_ran Coalesces c.args.graph.now.nodes c.loop-number.graph.nodes c.loop-number.took c.loop-number.invariant.took
    (none_left c.loop-number.graph.nodes c.loop-number.waiting.numbers c.loop-number.invariant.wait c.in_default.ensures.none)

pub returns-clause-done : goal.returns-clause-done
returns-clause-done c = none_left c.loop-number.graph.nodes c.loop-number.waiting.numbers c.loop-number.invariant.wait c.in_default.ensures.none

pub returns-clause-turn : goal.returns-clause-turn
returns-clause-turn c = sweeping_ends c.args.graph.now.nodes c.loop-number.graph.nodes c.loop-number.waiting.numbers c.loop-number.place c.loop-number.invariant.sweeping c.loop-number.invariant.wait c.in_default.ensures.none

pub returns-in_err-some_are_shared-clause-ran : goal.returns-in_err-some_are_shared-clause-ran
returns-in_err-some_are_shared-clause-ran c =
    ran_err c.args.graph.now.nodes c.args.graph.now.nodes c.from_residual-in_err-some_are_shared.result c.from_residual-in_err-some_are_shared.ensures.0 Stays

pub returns-then-not-branch-clause-ran : goal.returns-then-not-branch-clause-ran
returns-then-not-branch-clause-ran c = (none_done c.args.graph.now.nodes (c.in_ok-some_are_shared.ensures c.if-not-branch.true), refl)

pub returns-then-not-branch-clause-done : goal.returns-then-not-branch-clause-done
returns-then-not-branch-clause-done c = none_done c.args.graph.now.nodes (c.in_ok-some_are_shared.ensures c.if-not-branch.true)

pub returns-then-not-branch-clause-turn : goal.returns-then-not-branch-clause-turn
returns-then-not-branch-clause-turn c = none_rounds c.args.graph.now.nodes (c.in_ok-some_are_shared.ensures c.if-not-branch.true)
