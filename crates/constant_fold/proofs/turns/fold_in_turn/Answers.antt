-- One node after another can't be folded, or is folded by a step.
use Rattle.std.proofs.Common.{◌+◌, sym, subst, arith}
use Rattle.std.specs.Prelude.{nat_lt}
use Rattle.graph.specs.Steps.{Folds}
use Rattle.pass_frame.proofs.Sweeps.{took_sound}
use Rattle.constant_fold.specs.FoldLaws.{fold_keeps_sound}
use Rattle.constant_fold.proofs.TurnSteps.{Turned, turned_none, turned_next, key_read}
use Rattle.constant_fold.proofs.turns.fold_in_turn.Goals as goal

pub loop-index-init : goal.loop-index-init
loop-index-init c = record { turned = turned_none c.args.graph.now.nodes c.args.keys.now; listed = c.requires.listed }

pub fold_at-folded-requires : goal.fold_at-folded-requires
fold_at-folded-requires c = took_sound Folds fold_keeps_sound c.args.graph.now.nodes c.loop-index.graph.nodes (nat_lt 0 c.loop-index.again) c.requires.sound c.loop-index.invariant.turned.took

pub loop-index-preserved : goal.loop-index-preserved
loop-index-preserved c = record {
  turned = subst (λ n. Turned c.args.graph.now.nodes c.fold_at-folded.new.graph.nodes c.args.keys.now n (c.loop-index.index + 1)) (sym c.looked_at_again-again.ensures)
      (turned_next c.args.graph.now.nodes c.loop-index.graph.nodes c.fold_at-folded.new.graph.nodes c.args.keys.now c.loop-index.again c.loop-index.index c.index-keys-index.result c.fold_at-folded.result
      c.loop-index.invariant.turned (key_read c.args.keys.now c.loop-index.index c.index-keys-index.result c.loop-index-test.true c.index-keys-index.is) c.fold_at-folded.ensures.took c.fold_at-folded.ensures.none);
  listed = λ k h. c.loop-index.invariant.listed k (c.fold_at-folded.ensures.lived k h);
}

pub returns : goal.returns
returns c = record {
  took = c.loop-index.invariant.turned.took;
  within = omega (arith, c.loop-index.invariant.turned.within, c.loop-index.auto.index-end);
  rest = λ i h k. c.loop-index.invariant.turned.rest i h (omega (arith, k, c.loop-index-test.false));
  listed = c.loop-index.invariant.listed;
}
