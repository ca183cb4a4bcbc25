-- One node after another is reached by all its links, and in the end all are.
use Rattle.std.proofs.Common.{◌≡◌, get_or, refl, ◌∙◌, Ok}
use Rattle.graph.specs.Graph.{Lives}
use Rattle.graph.specs.Sound.{IsSound}
use Rattle.graph.specs.Steps.{Unreaches}
use Rattle.pass_frame.specs.Frame.{Stays}
use Rattle.pass_frame.proofs.FrameSteps.{ran_err, ran_exhausts}
use Rattle.pass_frame.proofs.Sweeps.{took_then, took_ran, took_sound, done_none, done_next, lived_next, key_in_turn, sweep_all}
use Rattle.unreach.specs.Reached.{IsReached}
use Rattle.unreach.specs.UnreachLaws.{unreach_keeps_sound}
use Rattle.unreach.proofs.UnreachSteps.{bound_stays, bounds_for_all, bounds_for_links, unreaches_done}
use Rattle.unreach.proofs.UnreachPass.run.Goals as goal

pub returns-in_err-keys-clause-ran : goal.returns-in_err-keys-clause-ran
returns-in_err-keys-clause-ran c = ran_err Unreaches c.args.graph.now.nodes c.args.graph.now.nodes c.from_residual.result c.from_residual.ensures.0 Stays

pub returns-in_err-bounds-clause-ran : goal.returns-in_err-bounds-clause-ran
returns-in_err-bounds-clause-ran c = ran_err Unreaches c.args.graph.now.nodes c.args.graph.now.nodes c.from_residual-in_err-bounds.result c.from_residual-in_err-bounds.ensures.0 Stays

pub loop-key-init : goal.loop-key-init
loop-key-init c = record {
  took = refl;
  reached = done_none (IsReached c.in_ok-bounds.bounds.list.items) c.args.graph.now.nodes c.deref-key-items.result.now;
  lived = λ k h. h;
  bounds = bounds_for_all c.args.graph.now.nodes c.deref.result.now c.in_ok-bounds.bounds.list.items (c.deref.ensures.value ∙ c.in_ok-keys.ensures) c.in_ok-bounds.ensures;
}

pub drop_spent_links-took-requires : goal.drop_spent_links-took-requires
drop_spent_links-took-requires c =
    let sound : IsSound c.loop-key.graph.nodes = took_sound Unreaches unreach_keeps_sound c.args.graph.now.nodes c.loop-key.graph.nodes c.loop-key.took c.requires c.loop-key.invariant.took in
    bounds_for_links c.loop-key.graph.nodes c.key-item.result c.in_ok-bounds.bounds.list.items sound (λ k h. c.loop-key.invariant.bounds k (c.loop-key.invariant.lived k h))

pub loop-key-preserved : goal.loop-key-preserved
loop-key-preserved c =
    let turn : Lives c.args.graph.now.nodes c.key-item.result × (c.key-item.result ≡ get_or c.deref-key-items.result.now c.loop-key.key-index 0) =
    key_in_turn c.args.graph.now.nodes c.deref-key-items.result.now (c.deref-key-items.ensures.value ∙ c.in_ok-keys.ensures) c.loop-key.key-index c.key-item.result c.loop-key-test.true c.key-item.is in record {
      took = took_then Unreaches c.args.graph.now.nodes c.loop-key.graph.nodes c.drop_spent_links-took.new.graph.nodes c.loop-key.took c.drop_spent_links-took.result c.loop-key.invariant.took
          c.drop_spent_links-took.ensures.took;
      reached = done_next (IsReached c.in_ok-bounds.bounds.list.items) c.loop-key.graph.nodes c.drop_spent_links-took.new.graph.nodes c.deref-key-items.result.now c.loop-key.key-index c.key-item.result
          c.loop-key.invariant.reached turn.1 c.drop_spent_links-took.ensures.reached c.drop_spent_links-took.ensures.others;
      lived = lived_next c.args.graph.now.nodes c.loop-key.graph.nodes c.drop_spent_links-took.new.graph.nodes c.key-item.result c.loop-key.invariant.lived turn.0 c.drop_spent_links-took.ensures.others;
      bounds = λ k h. bound_stays c.loop-key.graph.nodes c.drop_spent_links-took.new.graph.nodes c.in_ok-bounds.bounds.list.items k c.drop_spent_links-took.ensures.bounds (c.loop-key.invariant.bounds k h);
    }

pub returns-clause-done : goal.returns-clause-done
returns-clause-done c =
    let sound : IsSound c.loop-key.graph.nodes = took_sound Unreaches unreach_keeps_sound c.args.graph.now.nodes c.loop-key.graph.nodes c.loop-key.took c.requires c.loop-key.invariant.took in
    unreaches_done c.loop-key.graph.nodes c.in_ok-bounds.bounds.list.items sound (λ k h. c.loop-key.invariant.bounds k (c.loop-key.invariant.lived k h))
    (sweep_all (IsReached c.in_ok-bounds.bounds.list.items) c.args.graph.now.nodes c.loop-key.graph.nodes c.deref-key-items.result.now c.loop-key.key-index (c.deref-key-items.ensures.value ∙ c.in_ok-keys.ensures)
    c.loop-key.invariant.reached c.loop-key-test.false c.loop-key.invariant.lived)

pub returns-clause-ran : goal.returns-clause-ran
returns-clause-ran c =
    let sound : IsSound c.loop-key.graph.nodes = took_sound Unreaches unreach_keeps_sound c.args.graph.now.nodes c.loop-key.graph.nodes c.loop-key.took c.requires c.loop-key.invariant.took in
    took_ran Unreaches c.args.graph.now.nodes c.loop-key.graph.nodes c.loop-key.took c.loop-key.invariant.took
    (unreaches_done c.loop-key.graph.nodes c.in_ok-bounds.bounds.list.items sound (λ k h. c.loop-key.invariant.bounds k (c.loop-key.invariant.lived k h))
    (sweep_all (IsReached c.in_ok-bounds.bounds.list.items) c.args.graph.now.nodes c.loop-key.graph.nodes c.deref-key-items.result.now c.loop-key.key-index (c.deref-key-items.ensures.value ∙ c.in_ok-keys.ensures)
    c.loop-key.invariant.reached c.loop-key-test.false c.loop-key.invariant.lived))

pub returns-clause-turn : goal.returns-clause-turn
returns-clause-turn c = ran_exhausts Unreaches c.args.graph.now.nodes c.loop-key.graph.nodes (Ok c.loop-key.took) (returns-clause-ran c) (returns-clause-done c)
