-- One node changes.
use Rattle.std.proofs.Common.{◌≡◌, Some, None, ◌∙◌, sym, ap, get_or}
use Rattle.std.specs.Option.{option_copied_mut}
use Rattle.graph.specs.Graph.{Graph}
use Rattle.graph.specs.Edits.{change, folded}
use Rattle.graph.proofs.EditSteps.{change-plain, stored_after_put, groups_after_fold}
use Rattle.graph.proofs.Graph.fold_to.Goals as goal

pub invariant_of-self : goal.invariant_of-self
invariant_of-self c =
    let here : get_or c.self.inside.nodes.entries c.args.key None ≡ Some c.unwrap.result.now = sym c.get_mut.ensures.value ∙ ap option_copied_mut c.unwrap.ensures in
    stored_after_put c.self.inside.nodes.entries c.args.key c.fold_to.new.self c.self.invariant (groups_after_fold c.args.value c.unwrap.result.now c.fold_to.new.self c.fold_to.ensures)

pub returns : goal.returns
returns c =
    let here : get_or c.self.inside.nodes.entries c.args.key None ≡ Some c.unwrap.result.now = sym c.get_mut.ensures.value ∙ ap option_copied_mut c.unwrap.ensures in
    change-plain (folded c.args.value) c.self.inside.nodes.entries c.args.key c.unwrap.result.now c.fold_to.new.self here c.fold_to.ensures
    ∙ ap (λ (graph : Graph). change (folded c.args.value) graph.nodes c.args.key) c.self.view_is
