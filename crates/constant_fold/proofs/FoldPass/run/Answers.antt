-- Nodes are folded in turn, and then what is left.
use Rattle.std.proofs.Common.{◌<◌, true, false, subst, ◌∙◌, arith, length}
use Rattle.std.proofs.lemmas.Bool.{lt-ltb}
use Rattle.std.specs.Prelude.{nat_lt}
use Rattle.graph.specs.Steps.{Folds}
use Rattle.pass_frame.specs.Frame.{Stays, IsDone}
use Rattle.pass_frame.specs.Took.{Took}
use Rattle.pass_frame.proofs.FrameSteps.{reaches_append, ran_err}
use Rattle.pass_frame.proofs.Sweeps.{took_ran, took_sound, took_reaches}
use Rattle.constant_fold.specs.FoldLaws.{fold_keeps_sound}
use Rattle.constant_fold.specs.Tended.{NoneFold}
use Rattle.constant_fold.proofs.TendSteps.{listed_of}
use Rattle.constant_fold.proofs.TurnSteps.{none_folds}
use Rattle.constant_fold.proofs.FoldPass.run.Goals as goal

pub returns-in_err-keys-clause-ran : goal.returns-in_err-keys-clause-ran
returns-in_err-keys-clause-ran c = ran_err Folds c.args.graph.now.nodes c.args.graph.now.nodes c.from_residual.result c.from_residual.ensures.0 Stays

pub fold_in_turn-again-requires-clause-listed : goal.fold_in_turn-again-requires-clause-listed
fold_in_turn-again-requires-clause-listed c = listed_of c.args.graph.now.nodes c.deref.result.now (c.deref.ensures.value ∙ c.in_ok-keys.ensures)

pub returns-then-again-eq0 : goal.returns-then-again-eq0
returns-then-again-eq0 c =
    let took : Took Folds c.args.graph.now.nodes false c.fold_in_turn-again.new.graph.nodes =
    subst (λ n. Took Folds c.args.graph.now.nodes (nat_lt 0 n) c.fold_in_turn-again.new.graph.nodes) c.if-again-eq0.true c.fold_in_turn-again.ensures.took in
    let done : IsDone Folds c.fold_in_turn-again.new.graph.nodes =
    none_folds c.fold_in_turn-again.new.graph.nodes c.deref.result.now c.fold_in_turn-again.ensures.listed
    (subst (λ n. NoneFold c.fold_in_turn-again.new.graph.nodes c.deref.result.now n (length c.deref.result.now)) c.if-again-eq0.true c.fold_in_turn-again.ensures.rest) in
    record {
      ran = took_ran Folds c.args.graph.now.nodes c.fold_in_turn-again.new.graph.nodes false took done;
      done = done;
      turn = record { reaches = took_reaches Folds c.args.graph.now.nodes c.fold_in_turn-again.new.graph.nodes false took; rests = done };
    }

pub fold_others-requires-clause-sound : goal.fold_others-requires-clause-sound
fold_others-requires-clause-sound c = took_sound Folds fold_keeps_sound c.args.graph.now.nodes c.fold_in_turn-again.new.graph.nodes (nat_lt 0 c.fold_in_turn-again.result) c.requires c.fold_in_turn-again.ensures.took

pub returns-in_err-fold_others-clause-ran : goal.returns-in_err-fold_others-clause-ran
returns-in_err-fold_others-clause-ran c = ran_err Folds c.args.graph.now.nodes c.fold_others.new.graph.nodes c.from_residual-in_err-fold_others.result c.from_residual-in_err-fold_others.ensures.0
    (reaches_append Folds (took_reaches Folds c.args.graph.now.nodes c.fold_in_turn-again.new.graph.nodes (nat_lt 0 c.fold_in_turn-again.result) c.fold_in_turn-again.ensures.took) c.fold_others.ensures.reaches)

pub returns-clause-ran : goal.returns-clause-ran
returns-clause-ran c =
    let some : 0 < c.fold_in_turn-again.result = omega arith in
    let took : Took Folds c.args.graph.now.nodes true c.fold_in_turn-again.new.graph.nodes =
    subst (λ b. Took Folds c.args.graph.now.nodes b c.fold_in_turn-again.new.graph.nodes) (lt-ltb 0 c.fold_in_turn-again.result some) c.fold_in_turn-again.ensures.took in (took.0, took.1, reaches_append Folds took.2 c.fold_others.ensures.reaches)

pub returns-clause-turn : goal.returns-clause-turn
returns-clause-turn c = record {
  reaches = reaches_append Folds (took_reaches Folds c.args.graph.now.nodes c.fold_in_turn-again.new.graph.nodes (nat_lt 0 c.fold_in_turn-again.result) c.fold_in_turn-again.ensures.took) c.fold_others.ensures.reaches;
  rests = c.in_ok-fold_others.ensures.done;
}
