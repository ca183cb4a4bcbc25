-- All unseen nodes are dropped at once, which is pruning them one after another.
use Rattle.std.proofs.Common.{sym, ◌∙◌, subst, ap, Ok, not}
use Rattle.std.specs.Prelude.{◌==◌}
use Rattle.graph.specs.Edits.{IsClosed}
use Rattle.graph.specs.Steps.{Prunes}
use Rattle.pass_frame.specs.Frame.{Stays, IsDone}
use Rattle.pass_frame.proofs.FrameSteps.{ran_err, ran_exhausts}
use Rattle.prune.specs.Unseen.{AreUnseen}
use Rattle.prune.proofs.StepChain.{unseen_may_be_dropped, dropping_ran, none_is_left}
use Rattle.prune.proofs.PrunePass.run.Goals as goal

pub returns-in_err-unseen-clause-ran : goal.returns-in_err-unseen-clause-ran
returns-in_err-unseen-clause-ran c = ran_err Prunes c.args.graph.now.nodes c.args.graph.now.nodes c.from_residual.result c.from_residual.ensures.0 Stays

pub drop_set-requires : goal.drop_set-requires
drop_set-requires c = subst (IsClosed c.args.graph.now.nodes) (sym c.deref.ensures.value) (unseen_may_be_dropped c.in_ok-unseen.ensures)

pub returns-clause-ran : goal.returns-clause-ran
returns-clause-ran c =
    dropping_ran c.args.graph.now.nodes c.drop_set.new.self.nodes c.deref.result.now c.is_empty.result c.requires
    (subst (AreUnseen c.args.graph.now.nodes) (sym c.deref.ensures.value) c.in_ok-unseen.ensures) c.drop_set.ensures
    (c.is_empty.ensures ∙ ap (λ n. n == 0) (sym c.deref.ensures.len))

pub returns-clause-done : goal.returns-clause-done
returns-clause-done c =
    subst (IsDone Prunes) (sym c.drop_set.ensures)
    (none_is_left c.args.graph.now.nodes c.deref.result.now (subst (AreUnseen c.args.graph.now.nodes) (sym c.deref.ensures.value) c.in_ok-unseen.ensures))

pub returns-clause-turn : goal.returns-clause-turn
returns-clause-turn c = ran_exhausts Prunes c.args.graph.now.nodes c.drop_set.new.self.nodes (Ok (not c.is_empty.result)) (returns-clause-ran c) (returns-clause-done c)
