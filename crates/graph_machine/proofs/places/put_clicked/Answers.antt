use Rattle.std.proofs.Common.{◌≡◌, ◌∙◌, sym, subst, Some, Option}
use Rattle.std.specs.Bool.{MatchBool}
use Rattle.std.specs.BTreeMap.{Updates}
use Rattle.graph_machine.specs.declared.net.Part.{Part}
use Rattle.graph_machine.specs.Places.{Spot, spot, spot_cmp, PutsClicked}
use Rattle.graph_machine.proofs.places.put_clicked.Goals as goal

pub returns-in_ok-insert : goal.returns-in_ok-insert
returns-in_ok-insert c =
    let old = c.args.keys.now in
    let new = c.insert.new.self in
    let part = c.in-Some.part in
    let updates : Updates spot_cmp old new (spot part.pos) (Some c.args.key) = subst (λ (s : Spot). Updates spot_cmp old new s (Some c.args.key)) c.spot.ensures c.in_ok-insert.ensures.updates in
    subst (λ (p : Option Part). PutsClicked c.args.key p old new) (sym c.in-Some.is)
    (subst (λ b. MatchBool b (Updates spot_cmp old new (spot part.pos) (Some c.args.key)) (new.entries ≡ old.entries)) (sym (sym c.is_clicked.ensures ∙ c.if-is_clicked.true)) updates)
