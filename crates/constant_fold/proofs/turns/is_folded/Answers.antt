-- One node after another can't be folded.
use Rattle.std.proofs.Common.{take, sym, ◌∙◌}
use Rattle.constant_fold.proofs.TurnSteps.{none_of, none_next, none_all, none_folds, key_read}
use Rattle.constant_fold.proofs.turns.is_folded.Goals as goal

pub loop-key-preserved : goal.loop-key-preserved
loop-key-preserved c = none_next c.args.graph.now.nodes (take c.args.again c.args.keys.now) 0 c.loop-key.key-index c.key-item.result c.loop-key.invariant
    (key_read (take c.args.again c.args.keys.now) c.loop-key.key-index c.key-item.result c.loop-key-test.true c.key-item.is)
    (sym c.fold_value_at.ensures ∙ none_of c.fold_value_at.result (sym c.is_some.ensures ∙ c.if-is_some.false))

pub returns : goal.returns
returns c _ = none_folds c.args.graph.now.nodes c.args.keys.now c.requires.listed
    (none_all c.args.graph.now.nodes c.args.keys.now c.args.again c.loop-key.key-index c.requires.within c.loop-key.invariant c.loop-key-test.false c.requires.rest)
