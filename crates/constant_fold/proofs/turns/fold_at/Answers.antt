-- What the test finds can be folded by a step.
use Rattle.std.proofs.Common.{sym, ◌∙◌}
use Rattle.pass_frame.specs.Frame.{Stays}
use Rattle.constant_fold.proofs.TendSteps.{fold_step, foldable_low}
use Rattle.constant_fold.proofs.TurnSteps.{foldable_by}
use Rattle.constant_fold.proofs.turns.fold_at.Goals as goal

pub fold_to-requires-clause-range : goal.fold_to-requires-clause-range
fold_to-requires-clause-range c =
    foldable_low c.args.graph.now.nodes c.args.key c.in-Some.value c.requires (foldable_by c.args.graph.now.nodes c.args.key c.in-Some.value (sym c.fold_value_at.ensures ∙ c.in-Some.is))

pub returns-in-Some-clause-took : goal.returns-in-Some-clause-took
returns-in-Some-clause-took c = (
  c.fold_to.new.self.nodes,
  fold_step c.args.graph.now.nodes c.fold_to.new.self.nodes c.args.key c.in-Some.value (foldable_by c.args.graph.now.nodes c.args.key c.in-Some.value (sym c.fold_value_at.ensures ∙ c.in-Some.is)) c.fold_to.ensures,
  Stays,
)
