-- One node takes the part of another, whose links go into some nodes.
use Rattle.std.proofs.Common.{sym, subst}
use Rattle.graph.specs.Graph.{Graph, Nodes}
use Rattle.graph.specs.Merging.{IsFanOut}
use Rattle.graph.specs.Stored.{plain_nodes, IsStored}
use Rattle.graph.proofs.EditSteps.{stored_after_renamed}
use Rattle.graph.proofs.FanSteps.{fan_standing, stored_after_part}
use Rattle.graph.proofs.Graph.merge_among.Goals as goal

pub invariant_of-self-2 : goal.invariant_of-self-2
invariant_of-self-2 c =
    subst IsStored (sym c.rename_among.ensures) (stored_after_renamed c.args.keep c.args.gone (plain_nodes c.take_over.new.nodes.entries)
    (subst IsStored (sym c.in_ok-take_over.ensures.nodes) (stored_after_part (plain_nodes c.self.inside.nodes.entries) c.args.keep c.args.gone c.self.invariant)))

pub rename_among-requires-clause-fan : goal.rename_among-requires-clause-fan
rename_among-requires-clause-fan c =
    subst (λ (g : Nodes). IsFanOut g c.args.gone c.args.targets.now) (sym c.in_ok-take_over.ensures.nodes)
    (fan_standing (plain_nodes c.self.inside.nodes.entries) c.args.keep c.args.gone c.args.targets.now
    (subst (λ (graph : Graph). IsFanOut graph.nodes c.args.gone c.args.targets.now) (sym c.self.view_is) c.requires.fan))
