use Rattle.std.proofs.Common.{◌≡◌, List, Some, map, option_map, sym, ap, ◌∙◌, subst}
use Rattle.std.specs.Prelude.{codes}
use Rattle.graph.specs.Stored.{plain}
use Rattle.serde_json.specs.Find.{get}
use Rattle.serde_json.specs.View.{view}
use Rattle.graph_file.specs.declared.entries.Spot.{Spot}
use Rattle.graph_file.specs.Entries.{plain_place, with_also}
use Rattle.graph_file.specs.GraphFile.{Refuses}
use Rattle.graph_file.specs.Reading.{also_in, node_of}
use Rattle.graph_file.specs.Steps.{read_cause}
use Rattle.graph_file.proofs.NodeSteps.{node_said, out_of_range, in_range}
use Rattle.graph_file.proofs.reading.read_node.Goals as goal

pub returns-in-Some-3-clause-node : goal.returns-in-Some-3-clause-node
returns-in-Some-3-clause-node c =
    let d = view c.args.value.now in
    let spots : List Spot = c.deref.result.now in
    let also : Some (map plain_place spots) ≡ also_in (get (codes "also") d) =
    ap (λ (xs : List Spot). Some (map plain_place xs)) c.deref.ensures.value ∙ sym (ap (option_map (λ found. map plain_place found.items)) c.in-Some-2.is) ∙ c.in_ok-also.ensures ∙ ap also_in c.get.ensures in
    (in_range c.args.index d (with_also c.in-Some.entry spots) (plain c.in-Some-3.node) (node_said d c.in-Some.entry spots c.in-Some.ensures also) (sym (ap (option_map plain) c.in-Some-3.is) ∙ c.in_ok-node.ensures)).0

pub returns-in-Some-3-clause-ok : goal.returns-in-Some-3-clause-ok
returns-in-Some-3-clause-ok c =
    let d = view c.args.value.now in
    let spots : List Spot = c.deref.result.now in
    let also : Some (map plain_place spots) ≡ also_in (get (codes "also") d) =
    ap (λ (xs : List Spot). Some (map plain_place xs)) c.deref.ensures.value ∙ sym (ap (option_map (λ found. map plain_place found.items)) c.in-Some-2.is) ∙ c.in_ok-also.ensures ∙ ap also_in c.get.ensures in
    (in_range c.args.index d (with_also c.in-Some.entry spots) (plain c.in-Some-3.node) (node_said d c.in-Some.entry spots c.in-Some.ensures also) (sym (ap (option_map plain) c.in-Some-3.is) ∙ c.in_ok-node.ensures)).1

pub returns-clause-err : goal.returns-clause-err
returns-clause-err c =
    let d = view c.args.value.now in
    let spots : List Spot = c.deref.result.now in
    let also : Some (map plain_place spots) ≡ also_in (get (codes "also") d) =
    ap (λ (xs : List Spot). Some (map plain_place xs)) c.deref.ensures.value ∙ sym (ap (option_map (λ found. map plain_place found.items)) c.in-Some-2.is) ∙ c.in_ok-also.ensures ∙ ap also_in c.get.ensures in
    subst (Refuses (read_cause c.args.index (node_of d))) (sym c.node_refusal-in-None.ensures)
    (out_of_range c.args.index d (with_also c.in-Some.entry spots) (node_said d c.in-Some.entry spots c.in-Some.ensures also) (sym (ap (option_map plain) c.in-None.is) ∙ c.in_ok-node.ensures))
