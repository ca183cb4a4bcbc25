-- One node has more room.
use Rattle.std.proofs.Common.{◌≡◌, ◌≤◌, Some, None, ◌∙◌, sym, ap, get_or, subst}
use Rattle.std.specs.Option.{option_copied_mut}
use Rattle.graph.specs.Graph.{Graph}
use Rattle.graph.specs.Stored.{plain}
use Rattle.std.specs.Prelude.{option_map}
use Rattle.std.proofs.Math.Seq.{map-set_same}
use Rattle.std.proofs.lemmas.Result.{on_ok_weaker}
use Rattle.graph.proofs.EditSteps.{node_here, stored_after_put, groups_after_reserve, room_after_same, room_kept}
use Rattle.graph.proofs.Graph.reserve_links.Goals as goal

pub reserve_links-requires : goal.reserve_links-requires
reserve_links-requires c =
    let here : get_or c.self.inside.nodes.entries c.args.to None ≡ Some c.unwrap.result.now = sym c.get_mut.ensures.value ∙ ap option_copied_mut c.unwrap.ensures in
    record { few = c.self.invariant.few c.args.to (plain c.unwrap.result.now) (node_here c.self.inside.nodes.entries c.args.to c.unwrap.result.now here) }

pub invariant_of-self : goal.invariant_of-self
invariant_of-self c =
    let here : get_or c.self.inside.nodes.entries c.args.to None ≡ Some c.unwrap.result.now = sym c.get_mut.ensures.value ∙ ap option_copied_mut c.unwrap.ensures in
    stored_after_put c.self.inside.nodes.entries c.args.to c.reserve_links.new.self c.self.invariant
    (groups_after_reserve c.unwrap.result.now c.reserve_links.new.self c.reserve_links.ensures.plain
    (c.self.invariant.groups c.args.to (plain c.unwrap.result.now) (node_here c.self.inside.nodes.entries c.args.to c.unwrap.result.now here))
    (c.self.invariant.few c.args.to (plain c.unwrap.result.now) (node_here c.self.inside.nodes.entries c.args.to c.unwrap.result.now here)))

pub returns-clause-nodes : goal.returns-clause-nodes
returns-clause-nodes c =
    let here : get_or c.self.inside.nodes.entries c.args.to None ≡ Some c.unwrap.result.now = sym c.get_mut.ensures.value ∙ ap option_copied_mut c.unwrap.ensures in
    map-set_same (option_map plain) c.self.inside.nodes.entries c.args.to (Some c.reserve_links.new.self) None (ap Some c.reserve_links.ensures.plain ∙ ap (option_map plain) (sym here))
    ∙ ap (λ (graph : Graph). graph.nodes) c.self.view_is

pub returns-clause-room : goal.returns-clause-room
returns-clause-room c =
    let here : get_or c.self.inside.nodes.entries c.args.to None ≡ Some c.unwrap.result.now = sym c.get_mut.ensures.value ∙ ap option_copied_mut c.unwrap.ensures in
    let new = room_after_same c.self.inside.nodes.entries c.args.to c.unwrap.result.now c.reserve_links.new.self here in
    on_ok_weaker c.reserve_links.result (λ e. subst (λ n. c.args.more ≤ n) (sym new) e) c.reserve_links.ensures.ok

pub returns-clause-others : goal.returns-clause-others
returns-clause-others c =
    let here : get_or c.self.inside.nodes.entries c.args.to None ≡ Some c.unwrap.result.now = sym c.get_mut.ensures.value ∙ ap option_copied_mut c.unwrap.ensures in
    rw (← c.self.view_is) (room_kept c.self.inside.nodes.entries c.args.to c.unwrap.result.now c.reserve_links.new.self here c.reserve_links.ensures.grows)
