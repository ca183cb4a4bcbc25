-- The node is sound.
use Rattle.std.proofs.Common.{sym}
use Rattle.graph.specs.Stored.{plain}
use Rattle.constant_fold.proofs.rests.fold_value_at.Goals as goal

pub fold_value-requires : goal.fold_value-requires
fold_value-requires c = c.requires.each c.args.key (plain c.in_ok-node.node.now) (sym c.in_ok-node.ensures.value)
