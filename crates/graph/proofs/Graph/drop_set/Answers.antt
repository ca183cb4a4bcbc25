-- The others stay.
use Rattle.std.proofs.Common.{sym, subst}
use Rattle.graph.specs.Stored.{plain_nodes, IsStored}
use Rattle.graph.proofs.EditSteps.{stored_after_drop}
use Rattle.graph.proofs.Graph.drop_set.Goals as goal

pub invariant_of-self : goal.invariant_of-self
invariant_of-self c = subst IsStored (sym c.drop_all.ensures) (stored_after_drop (plain_nodes c.self.inside.nodes.entries) c.args.set.now c.self.invariant)
