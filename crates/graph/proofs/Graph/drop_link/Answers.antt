-- One node changes.
use Rattle.std.proofs.Common.{◌≡◌, Some, None, ◌∙◌, sym, ap, get_or}
use Rattle.std.specs.Option.{option_copied_mut}
use Rattle.graph.specs.Graph.{Graph}
use Rattle.graph.specs.Stored.{plain}
use Rattle.graph.specs.Edits.{change, without_link}
use Rattle.graph.proofs.EditSteps.{change-plain, node_here, stored_after_put, groups_after_drop}
use Rattle.graph.proofs.Graph.drop_link.Goals as goal

pub invariant_of-self : goal.invariant_of-self
invariant_of-self c =
    let here : get_or c.self.inside.nodes.entries c.args.to None ≡ Some c.unwrap.result.now = sym c.get_mut.ensures.value ∙ ap option_copied_mut c.unwrap.ensures in
    stored_after_put c.self.inside.nodes.entries c.args.to c.drop_link.new.self c.self.invariant (groups_after_drop c.args.index c.unwrap.result.now c.drop_link.new.self c.drop_link.ensures (c.self.invariant.groups c.args.to (plain c.unwrap.result.now) (node_here c.self.inside.nodes.entries c.args.to c.unwrap.result.now here)) (c.self.invariant.few c.args.to (plain c.unwrap.result.now) (node_here c.self.inside.nodes.entries c.args.to c.unwrap.result.now here)))

pub returns : goal.returns
returns c =
    let here : get_or c.self.inside.nodes.entries c.args.to None ≡ Some c.unwrap.result.now = sym c.get_mut.ensures.value ∙ ap option_copied_mut c.unwrap.ensures in
    change-plain (without_link c.args.index) c.self.inside.nodes.entries c.args.to c.unwrap.result.now c.drop_link.new.self here c.drop_link.ensures
    ∙ ap (λ (graph : Graph). change (without_link c.args.index) graph.nodes c.args.to) c.self.view_is
