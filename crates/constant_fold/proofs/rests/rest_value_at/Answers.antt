-- The state of a sound node is in range.
use Rattle.std.proofs.Common.{sym, ap, ◌∙◌}
use Rattle.graph.specs.Stored.{plain}
use Rattle.constant_fold.specs.Foldable.{part_at}
use Rattle.constant_fold.proofs.TendSteps.{state_in_range}
use Rattle.constant_fold.proofs.rests.rest_value_at.Goals as goal

pub rest_value-requires : goal.rest_value-requires
rest_value-requires c =
    state_in_range (plain c.in_ok-node.node.now) c.args.component c.args.graph.now.nodes (c.requires.sound.each c.args.key (plain c.in_ok-node.node.now) (sym c.in_ok-node.ensures.value))
    (ap part_at c.in_ok-node.ensures.value ∙ c.requires.part)
