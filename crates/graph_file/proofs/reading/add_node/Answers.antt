use Rattle.std.proofs.Common.{sym, ◌∙◌, subst}
use Rattle.graph.specs.Stored.{plain}
use Rattle.serde_json.specs.View.{view}
use Rattle.graph_file.specs.GraphFile.{node_cause, Refuses}
use Rattle.graph_file.specs.Reading.{node_of}
use Rattle.graph_file.specs.Steps.{has_place}
use Rattle.graph_file.proofs.CauseSteps.{refused_before_place}
use Rattle.graph_file.proofs.NodeSteps.{place_taken, place_free}
use Rattle.graph_file.proofs.reading.add_node.Goals as goal

pub returns-in-Err-clause-err : goal.returns-in-Err-clause-err
returns-in-Err-clause-err c = refused_before_place c.args.index (has_place c.args.places.now.keys) (node_of (view c.args.value.now)) c.in-Err.refusal c.in-Err.ensures.err

pub returns-then-not-branch-clause-err : goal.returns-then-not-branch-clause-err
returns-then-not-branch-clause-err c =
    let seen = has_place c.args.places.now.keys in
    let found = node_of (view c.args.value.now) in
    subst (Refuses (node_cause c.args.index seen found)) (sym c.node_refusal.ensures)
    (place_taken c.args.index seen found (plain c.in-Ok.node) c.in-Ok.ensures.node c.in-Ok.ensures.ok (sym c.if-not-branch.true ∙ c.in_ok-add_node_places.ensures.added))

pub returns-clause-ok : goal.returns-clause-ok
returns-clause-ok c =
    let seen = has_place c.args.places.now.keys in
    let found = node_of (view c.args.value.now) in
    place_free c.args.index seen found (plain c.in-Ok.node) c.in-Ok.ensures.node c.in-Ok.ensures.ok (sym c.if-not-branch.false ∙ c.in_ok-add_node_places.ensures.added)
