-- One node changes.
use Rattle.std.proofs.Common.{◌≡◌, ◌+◌, ◌<◌, Some, None, ◌∙◌, sym, ap, arith, get_or, subst}
use Rattle.std.specs.Option.{option_copied_mut}
use Rattle.graph.specs.Graph.{Graph}
use Rattle.graph.specs.Stored.{plain}
use Rattle.std.proofs.lemmas.Result.{on_ok_weaker}
use Rattle.graph.specs.Graph.{spare_of}
use Rattle.graph.specs.Edits.{change, with_link}
use Rattle.graph.proofs.EditSteps.{change-plain, node_here, stored_after_put, groups_after_add, room_here, room_after_same, room_after_other}
use Rattle.graph.proofs.Graph.add_link.Goals as goal

pub add_link-requires-clause-groups : goal.add_link-requires-clause-groups
add_link-requires-clause-groups c =
    let here : get_or c.self.inside.nodes.entries c.args.to None ≡ Some c.unwrap.result.now = sym c.get_mut.ensures.value ∙ ap option_copied_mut c.unwrap.ensures in
    c.self.invariant.groups c.args.to (plain c.unwrap.result.now) (node_here c.self.inside.nodes.entries c.args.to c.unwrap.result.now here)

pub add_link-requires-clause-few : goal.add_link-requires-clause-few
add_link-requires-clause-few c =
    let here : get_or c.self.inside.nodes.entries c.args.to None ≡ Some c.unwrap.result.now = sym c.get_mut.ensures.value ∙ ap option_copied_mut c.unwrap.ensures in
    c.self.invariant.few c.args.to (plain c.unwrap.result.now) (node_here c.self.inside.nodes.entries c.args.to c.unwrap.result.now here)

pub invariant_of-self : goal.invariant_of-self
invariant_of-self c =
    let here : get_or c.self.inside.nodes.entries c.args.to None ≡ Some c.unwrap.result.now = sym c.get_mut.ensures.value ∙ ap option_copied_mut c.unwrap.ensures in
    stored_after_put c.self.inside.nodes.entries c.args.to c.add_link.new.self c.self.invariant
    (groups_after_add c.add_link.result c.args.link c.unwrap.result.now c.add_link.new.self c.add_link.ensures.plain c.add_link.ensures.few c.add_link.ensures.err
    (c.self.invariant.groups c.args.to (plain c.unwrap.result.now) (node_here c.self.inside.nodes.entries c.args.to c.unwrap.result.now here))
    (c.self.invariant.few c.args.to (plain c.unwrap.result.now) (node_here c.self.inside.nodes.entries c.args.to c.unwrap.result.now here)))

pub returns-clause-nodes : goal.returns-clause-nodes
returns-clause-nodes c =
    let here : get_or c.self.inside.nodes.entries c.args.to None ≡ Some c.unwrap.result.now = sym c.get_mut.ensures.value ∙ ap option_copied_mut c.unwrap.ensures in
    on_ok_weaker c.add_link.result
    (λ e. change-plain (with_link c.args.link) c.self.inside.nodes.entries c.args.to c.unwrap.result.now c.add_link.new.self here e
    ∙ ap (λ (graph : Graph). change (with_link c.args.link) graph.nodes c.args.to) c.self.view_is)
    c.add_link.ensures.plain

pub returns-clause-room : goal.returns-clause-room
returns-clause-room c =
    let here : get_or c.self.inside.nodes.entries c.args.to None ≡ Some c.unwrap.result.now = sym c.get_mut.ensures.value ∙ ap option_copied_mut c.unwrap.ensures in
    let old : spare_of c.args.self.now c.args.to ≡ c.unwrap.result.now.links.spare = ap (λ (graph : Graph). spare_of graph c.args.to) (sym c.self.view_is) ∙ room_here c.self.inside.nodes.entries c.args.to c.unwrap.result.now here in
    let new = room_after_same c.self.inside.nodes.entries c.args.to c.unwrap.result.now c.add_link.new.self here in
    on_ok_weaker c.add_link.result (λ e some. ap (λ n. n + 1) new ∙ e (subst (λ n. 0 < n) old some) ∙ sym old) c.add_link.ensures.room

pub returns-clause-others : goal.returns-clause-others
returns-clause-others c = λ other n. rw (← c.self.view_is) (omega (arith, room_after_other c.self.inside.nodes.entries c.args.to (Some c.add_link.new.self) other n))
