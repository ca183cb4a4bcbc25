-- One node takes the part of another.
use Rattle.std.proofs.Common.{sym, subst}
use Rattle.graph.specs.Stored.{plain_nodes, IsStored}
use Rattle.graph.proofs.EditSteps.{stored_after_renamed}
use Rattle.graph.proofs.FanSteps.{stored_after_part}
use Rattle.graph.proofs.Graph.merge.Goals as goal

pub invariant_of-self-2 : goal.invariant_of-self-2
invariant_of-self-2 c =
    subst IsStored (sym c.rename_in_all.ensures) (stored_after_renamed c.args.keep c.args.gone (plain_nodes c.take_over.new.nodes.entries)
    (subst IsStored (sym c.in_ok-take_over.ensures.nodes) (stored_after_part (plain_nodes c.self.inside.nodes.entries) c.args.keep c.args.gone c.self.invariant)))
