-- One node after another is left with single links, and in the end all are.
use Rattle.std.proofs.Common.{◌≡◌, ◌+◌, ◌*◌, ◌<◌, get_or, refl, subst, sym, ◌∙◌, Ok}
use Rattle.graph.specs.Graph.{Lives}
use Rattle.graph.specs.Sound.{IsSound}
use Rattle.graph.specs.Steps.{Dedups}
use Rattle.pass_frame.specs.Frame.{Stays, IsDone}
use Rattle.pass_frame.proofs.FrameSteps.{ran_err, ran_exhausts}
use Rattle.pass_frame.proofs.Sweeps.{took_then, took_ran, took_sound, done_none, done_next, lived_next, key_in_turn, sweep_all}
use Rattle.clamp_dedup.specs.Single.{IsSingle}
use Rattle.clamp_dedup.specs.DedupLaws.{dedup_keeps_sound}
use Rattle.clamp_dedup.proofs.DedupSteps.{dedups_done, slots_for_all, slots_for_links}
use Rattle.clamp_dedup.proofs.DedupPass.run.Goals as goal

pub returns-in_err-keys-clause-ran : goal.returns-in_err-keys-clause-ran
returns-in_err-keys-clause-ran c = ran_err Dedups c.args.graph.now.nodes c.args.graph.now.nodes c.from_residual.result c.from_residual.ensures.0 Stays

pub have_few_single_links-requires : goal.have_few_single_links-requires
have_few_single_links-requires c = c.deref.ensures.value ∙ c.in_ok-keys.ensures

pub returns-then-have_few_single_links : goal.returns-then-have_few_single_links
returns-then-have_few_single_links c =
    let done : IsDone Dedups c.args.graph.now.nodes = dedups_done c.args.graph.now.nodes (c.have_few_single_links.ensures c.if-have_few_single_links.true) in
    record { ran = (done, refl); done = done; turn = record { reaches = Stays; rests = done } }

pub returns-in_err-weights-clause-ran : goal.returns-in_err-weights-clause-ran
returns-in_err-weights-clause-ran c = ran_err Dedups c.args.graph.now.nodes c.args.graph.now.nodes c.from_residual-in_err-weights.result c.from_residual-in_err-weights.ensures.0 Stays

pub loop-key-init : goal.loop-key-init
loop-key-init c = record {
  took = refl;
  single = done_none IsSingle c.args.graph.now.nodes c.deref-key-items.result.now;
  lived = λ k h. h;
  empty = c.in_ok-weights.ensures.empty;
  room = slots_for_all c.args.graph.now.nodes c.deref-2.result.now c.in_ok-weights.weights.slots.items (c.deref-2.ensures.value ∙ c.in_ok-keys.ensures) c.in_ok-weights.ensures.room;
}

pub drop_doubled_links-took-requires-clause-room : goal.drop_doubled_links-took-requires-clause-room
drop_doubled_links-took-requires-clause-room c =
    let sound : IsSound c.loop-key.graph.nodes = took_sound Dedups dedup_keeps_sound c.args.graph.now.nodes c.loop-key.graph.nodes c.loop-key.took c.requires c.loop-key.invariant.took in
    slots_for_links c.loop-key.graph.nodes c.key-item.result c.loop-key.weights.slots.items sound (λ k h. c.loop-key.invariant.room k (c.loop-key.invariant.lived k h))

pub loop-key-preserved : goal.loop-key-preserved
loop-key-preserved c =
    let turn : Lives c.args.graph.now.nodes c.key-item.result × (c.key-item.result ≡ get_or c.deref-key-items.result.now c.loop-key.key-index 0) =
    key_in_turn c.args.graph.now.nodes c.deref-key-items.result.now (c.deref-key-items.ensures.value ∙ c.in_ok-keys.ensures) c.loop-key.key-index c.key-item.result c.loop-key-test.true c.key-item.is in record {
      took = took_then Dedups c.args.graph.now.nodes c.loop-key.graph.nodes c.drop_doubled_links-took.new.graph.nodes c.loop-key.took c.drop_doubled_links-took.result c.loop-key.invariant.took
          c.drop_doubled_links-took.ensures.took;
      single = done_next IsSingle c.loop-key.graph.nodes c.drop_doubled_links-took.new.graph.nodes c.deref-key-items.result.now c.loop-key.key-index c.key-item.result c.loop-key.invariant.single turn.1
          c.drop_doubled_links-took.ensures.single c.drop_doubled_links-took.ensures.others;
      lived = lived_next c.args.graph.now.nodes c.loop-key.graph.nodes c.drop_doubled_links-took.new.graph.nodes c.key-item.result c.loop-key.invariant.lived turn.0 c.drop_doubled_links-took.ensures.others;
      empty = c.drop_doubled_links-took.ensures.empty;
      room = λ k h. subst (λ n. 2 * k + 1 < n) (sym c.drop_doubled_links-took.ensures.size) (c.loop-key.invariant.room k h);
    }

pub returns-clause-done : goal.returns-clause-done
returns-clause-done c = dedups_done c.loop-key.graph.nodes
    (sweep_all IsSingle c.args.graph.now.nodes c.loop-key.graph.nodes c.deref-key-items.result.now c.loop-key.key-index (c.deref-key-items.ensures.value ∙ c.in_ok-keys.ensures)
    c.loop-key.invariant.single c.loop-key-test.false c.loop-key.invariant.lived)

pub returns-clause-ran : goal.returns-clause-ran
returns-clause-ran c = took_ran Dedups c.args.graph.now.nodes c.loop-key.graph.nodes c.loop-key.took c.loop-key.invariant.took (dedups_done c.loop-key.graph.nodes
    (sweep_all IsSingle c.args.graph.now.nodes c.loop-key.graph.nodes c.deref-key-items.result.now c.loop-key.key-index (c.deref-key-items.ensures.value ∙ c.in_ok-keys.ensures)
    c.loop-key.invariant.single c.loop-key-test.false c.loop-key.invariant.lived))

pub returns-clause-turn : goal.returns-clause-turn
returns-clause-turn c = ran_exhausts Dedups c.args.graph.now.nodes c.loop-key.graph.nodes (Ok c.loop-key.took) (returns-clause-ran c) (returns-clause-done c)
