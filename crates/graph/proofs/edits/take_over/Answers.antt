-- One node stands for the places of another, which goes.
use Rattle.std.proofs.Common.{◌≡◌, Some, None, ◌∙◌, sym, ap, get_or, map, set, rules}
use Rattle.std.specs.Option.{option_map, option_copied, option_copied_mut}
use Rattle.std.proofs.Math.Seq.{map-set_same}
use Rattle.graph.specs.Merging.{with_places}
use Rattle.graph.specs.Stored.{plain, plain_nodes, room_at}
use Rattle.graph.proofs.EditSteps.{standing-plain}
use Rattle.graph.proofs.edits.take_over.Goals as goal

pub returns-in_err-stand_for-clause-err : goal.returns-in_err-stand_for-clause-err
returns-in_err-stand_for-clause-err c =
    let here : get_or c.args.nodes.now.entries c.args.keep None ≡ Some c.unwrap-2.result.now = sym c.get_mut.ensures.value ∙ ap option_copied_mut c.unwrap-2.ensures in
    let nodes : plain_nodes (set c.args.nodes.now.entries c.args.keep (Some c.stand_for.new.self)) ≡ plain_nodes c.args.nodes.now.entries =
    map-set_same (option_map plain) c.args.nodes.now.entries c.args.keep (Some c.stand_for.new.self) None (ap Some c.in_err-stand_for.ensures.err ∙ ap (option_map plain) (sym here)) in
    let rooms : map room_at (set c.args.nodes.now.entries c.args.keep (Some c.stand_for.new.self)) ≡ map room_at c.args.nodes.now.entries =
    map-set_same room_at c.args.nodes.now.entries c.args.keep (Some c.stand_for.new.self) None (c.stand_for.ensures.room ∙ ap room_at (sym here)) in
    search rules

pub returns-clause-nodes : goal.returns-clause-nodes
returns-clause-nodes c =
    let here : get_or c.args.nodes.now.entries c.args.keep None ≡ Some c.unwrap-2.result.now = sym c.get_mut.ensures.value ∙ ap option_copied_mut c.unwrap-2.ensures in
    let other : get_or c.args.nodes.now.entries c.args.gone None ≡ Some c.unwrap.result.now = sym c.get.ensures ∙ ap option_copied c.unwrap.ensures in
    ap plain_nodes c.remove.ensures.entries
    ∙ standing-plain c.args.nodes.now.entries c.args.keep c.args.gone c.unwrap-2.result.now c.unwrap.result.now c.stand_for.new.self here other
    (c.in_ok-stand_for.ensures.plain ∙ ap (λ places. with_places places (plain c.unwrap-2.result.now)) (c.deref.ensures.value ∙ c.in_ok-places.ensures))
