-- The node under the key has the links.
use Rattle.std.proofs.Common.{◌≡◌, Some, None, ◌∙◌, sym, ap, get_or}
use Rattle.std.specs.Option.{option_copied_mut}
use Rattle.graph.specs.Edits.{relinked}
use Rattle.graph.proofs.EditSteps.{change-plain, stored_after_put}
use Rattle.graph.proofs.edits.put_links.Goals as goal

pub returns-in-Some-clause-nodes : goal.returns-in-Some-clause-nodes
returns-in-Some-clause-nodes c =
    let here : get_or c.args.nodes.now.entries c.args.key None ≡ Some c.in-Some.node.now = sym c.get_mut.ensures.value ∙ ap option_copied_mut c.in-Some.is in
    change-plain (relinked c.args.links.items) c.args.nodes.now.entries c.args.key c.in-Some.node.now c.put_links.new.self here c.put_links.ensures.plain

pub returns-in-Some-clause-stored : goal.returns-in-Some-clause-stored
returns-in-Some-clause-stored c = λ stored. stored_after_put c.args.nodes.now.entries c.args.key c.put_links.new.self stored (c.put_links.ensures.groups, c.put_links.ensures.few)
