-- A link that isn't spent reaches.
use Rattle.std.proofs.Common.{sym, ap, ◌∙◌}
use Rattle.std.specs.List.{list_any}
use Rattle.graph.specs.declared.Node.{Node}
use Rattle.graph.specs.Stored.{plain}
use Rattle.unreach.specs.Reached.{is_spent}
use Rattle.unreach.proofs.UnreachSteps.{reached_by}
use Rattle.unreach.proofs.has_spent_link.Goals as goal

pub returns-in-Some : goal.returns-in-Some
returns-in-Some c none = reached_by c.args.graph.now.nodes c.args.bounds.now.list.items c.args.key (plain c.in-Some.node.now) c.in-Some.ensures.value
    (ap (list_any (is_spent c.args.bounds.now.list.items)) (sym (c.deref.ensures ∙ ap (λ (node : Node). node.links.items) c.node-in-Some.view_is)) ∙ sym c.has_spent.ensures ∙ none)
