use Rattle.std.proofs.Common.{◌≡◌, ◌++◌, ℕ, suc, List, Option, get_or, map, drop, sym, ap, ap₂, ◌∙◌, subst, arith, add-one, append-nil}
use Rattle.serde_json.specs.Data.{Data}
use Rattle.serde_json.specs.View.{view}
use Rattle.graph.specs.Graph.{Node, node_at}
use Rattle.graph_file.specs.Sending.{sent_at, sent_links}
use Rattle.graph_file.proofs.SendSteps.{go_on, links_step, links_past}
use Rattle.graph_file.proofs.writing.link_values.Goals as goal

pub loop-key-preserved : goal.loop-key-preserved
loop-key-preserved c =
    let g = c.args.graph.now.nodes in
    let key = c.loop-key.key in
    let renumber : ℕ → ℕ = λ (k : ℕ). get_or c.args.numbers.now k 0 in
    let found : List Data = map view c.loop-key.values.items in
    let new : List Data = map view c.push_links_at.new.values.items in
    let here = c.node.ensures.value ∙ ap (node_at g) c.new.ensures in
    subst (λ (n : ℕ). new ++ sent_links renumber n (drop n g) ≡ sent_links renumber 0 g) (sym (add-one key))
    (go_on found (sent_at renumber (renumber key) (node_at g key)) (sent_links renumber (suc key) (drop (suc key) g)) (sent_links renumber key (drop key g)) (sent_links renumber 0 g) new (links_step renumber key key g)
    (c.in_ok-push_links_at.ensures ∙ ap₂ (λ (to : ℕ) (e : Option Node). found ++ sent_at renumber to e) c.number_at-to.ensures here) c.loop-key.invariant)

pub returns : goal.returns
returns c =
    let g = c.args.graph.now.nodes in
    let renumber : ℕ → ℕ = λ (k : ℕ). get_or c.args.numbers.now k 0 in
    let found : List Data = map view c.loop-key.values.items in
    sym (append-nil found) ∙ ap (λ (rest : List Data). found ++ rest) (sym (links_past renumber c.loop-key.key c.loop-key.key g (λ k h. c.requires.past k (omega (arith, h, c.loop-key-test.false))))) ∙ c.loop-key.invariant
