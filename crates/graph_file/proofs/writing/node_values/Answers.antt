use Rattle.std.proofs.Common.{◌≡◌, ◌++◌, ℕ, suc, List, Option, map, drop, sym, ap, ◌∙◌, subst, arith, add-one, append-nil}
use Rattle.serde_json.specs.Data.{Data}
use Rattle.serde_json.specs.View.{view}
use Rattle.graph.specs.Graph.{Node, node_at}
use Rattle.graph_file.specs.Json.{entries_data}
use Rattle.graph_file.specs.Sending.{entry_data}
use Rattle.graph_file.proofs.SendSteps.{go_on, entries_step, entries_past}
use Rattle.graph_file.proofs.writing.node_values.Goals as goal

pub loop-key-preserved : goal.loop-key-preserved
loop-key-preserved c =
    let g = c.args.graph.now.nodes in
    let key = c.loop-key.key in
    let found : List Data = map view c.loop-key.nodes.items in
    let new : List Data = map view c.push_node.new.nodes.items in
    let here = c.node.ensures.value ∙ ap (node_at g) c.new.ensures in
    subst (λ (n : ℕ). new ++ entries_data (drop n g) ≡ entries_data g) (sym (add-one key))
    (go_on found (entry_data (node_at g key)) (entries_data (drop (suc key) g)) (entries_data (drop key g)) (entries_data g) new (entries_step key g)
    (c.in_ok-push_node.ensures ∙ ap (λ (e : Option Node). found ++ entry_data e) here) c.loop-key.invariant)

pub returns : goal.returns
returns c =
    let g = c.args.graph.now.nodes in
    let found : List Data = map view c.loop-key.nodes.items in
    sym (append-nil found) ∙ ap (λ (rest : List Data). found ++ rest) (sym (entries_past c.loop-key.key g (λ k h. c.requires.past k (omega (arith, h, c.loop-key-test.false))))) ∙ c.loop-key.invariant
