-- A link that isn't heavy is light.
use Rattle.std.proofs.Common.{sym, ap, ◌∙◌}
use Rattle.std.specs.List.{list_any}
use Rattle.graph.specs.declared.Node.{Node}
use Rattle.graph.specs.Stored.{plain}
use Rattle.clamp_dedup.specs.Clamped.{is_heavy}
use Rattle.clamp_dedup.proofs.ClampSteps.{clamped_by}
use Rattle.clamp_dedup.proofs.heavy.has_heavy_link.Goals as goal

pub returns-in-Some : goal.returns-in-Some
returns-in-Some c none = clamped_by c.args.graph.now.nodes c.args.key (plain c.in-Some.node.now) c.in-Some.ensures.value
    (ap (list_any is_heavy) (sym (c.deref.ensures ∙ ap (λ (node : Node). node.links.items) c.node-in-Some.view_is)) ∙ sym c.has_heavy.ensures ∙ none)
