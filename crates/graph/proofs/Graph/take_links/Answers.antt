-- One node is left without links.
use Rattle.std.proofs.Common.{◌≡◌, [], Some, None, ◌∙◌, sym, ap, get_or}
use Rattle.std.specs.Option.{option_copied_mut}
use Rattle.graph.specs.Graph.{Node, Graph}
use Rattle.graph.specs.Stored.{plain}
use Rattle.graph.specs.Edits.{set_links, relinked}
use Rattle.graph.proofs.EditSteps.{change-plain, node_here, stored_after_put, no_links_stored}
use Rattle.graph.proofs.Graph.take_links.Goals as goal

pub take_links-requires-clause-groups : goal.take_links-requires-clause-groups
take_links-requires-clause-groups c =
    let here : get_or c.self.inside.nodes.entries c.args.key None ≡ Some c.in_ok-node.node.now = sym c.get_mut.ensures.value ∙ ap option_copied_mut c.in_ok-node.was in
    c.self.invariant.groups c.args.key (plain c.in_ok-node.node.now) (node_here c.self.inside.nodes.entries c.args.key c.in_ok-node.node.now here)

pub take_links-requires-clause-few : goal.take_links-requires-clause-few
take_links-requires-clause-few c =
    let here : get_or c.self.inside.nodes.entries c.args.key None ≡ Some c.in_ok-node.node.now = sym c.get_mut.ensures.value ∙ ap option_copied_mut c.in_ok-node.was in
    c.self.invariant.few c.args.key (plain c.in_ok-node.node.now) (node_here c.self.inside.nodes.entries c.args.key c.in_ok-node.node.now here)

pub invariant_of-self-2 : goal.invariant_of-self-2
invariant_of-self-2 c = stored_after_put c.self.inside.nodes.entries c.args.key c.take_links.new.self c.self.invariant
    (no_links_stored c.take_links.new.self.links.items (ap (λ (n : Node). n.links) c.take_links.ensures.plain))

pub returns-clause-nodes : goal.returns-clause-nodes
returns-clause-nodes c =
    let here : get_or c.self.inside.nodes.entries c.args.key None ≡ Some c.in_ok-node.node.now = sym c.get_mut.ensures.value ∙ ap option_copied_mut c.in_ok-node.was in
    change-plain (relinked []) c.self.inside.nodes.entries c.args.key c.in_ok-node.node.now c.take_links.new.self here c.take_links.ensures.plain
    ∙ ap (λ (graph : Graph). set_links graph.nodes c.args.key []) c.self.view_is
