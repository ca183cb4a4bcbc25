use Rattle.std.proofs.Common.{◌≡◌, ◌-◌, ℕ, List, ◌∙◌, ap, sym, subst, arith, map, drop}
use Rattle.std.specs.Prelude.{IfOk}
use Rattle.graph.specs.GraphCircuit.{outputs_from}
use Rattle.graph_machine.specs.Places.{output_in}
use Rattle.graph_machine.proofs.PlaceSteps.{outputs_past, shown_more, shown_keys}
use Rattle.graph_machine.proofs.places.shown_by.Goals as goal

pub loop-key-init : goal.loop-key-init
loop-key-init c =
    ap (map output_in) c.new-keys.ensures.empty
    ∙ sym (outputs_past c.args.count c.args.count c.args.graph.now.nodes c.requires.past)

pub loop-key-preserved : goal.loop-key-preserved
loop-key-preserved c = shown_more c.args.graph.now.nodes c.requires.sound c.loop-key.key (c.loop-key.key - 1) c.part_under.result c.loop-key.keys.entries c.put_output.new.keys.entries (omega (arith, c.loop-key-test.true)) c.part_under.ensures c.loop-key.invariant c.in_ok-put_output.ensures

pub returns : goal.returns
returns c =
    let end : c.loop-key.key ≡ 0 = omega (arith, c.loop-key-test.false) in
    let nodes = c.args.graph.now.nodes in
    let whole : map output_in c.loop-key.keys.entries ≡ outputs_from 0 nodes = subst (λ (n : ℕ). map output_in c.loop-key.keys.entries ≡ outputs_from n (drop n nodes)) end c.loop-key.invariant in
    subst (λ (l : List ℕ). IfOk c.in_order.result (λ all. all.items ≡ l)) (shown_keys nodes c.loop-key.keys.entries whole) c.in_order.ensures
