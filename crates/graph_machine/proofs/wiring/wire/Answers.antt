use Rattle.std.proofs.Common.{◌≡◌, ◌<◌, [], ◌∷◌, length-append, ◌∙◌, ap, sym, subst, arith, length, Option}
use Rattle.std.specs.Prelude.{All, option_map}
use Rattle.std.specs.Option.{option_copied}
use Rattle.graph.specs.declared.Link.{Link}
use Rattle.graph.specs.Graph.{Node, node_at}
use Rattle.graph.specs.Stored.{plain}
use Rattle.graph_machine.specs.Outgoing.{links_at}
use Rattle.graph_machine.specs.Wired.{given}
use Rattle.graph_machine.specs.Wiring.{WiresLinks, WiredBelow}
use Rattle.graph_machine.proofs.WiringSteps.{wired_none, wired_more, wired_all, from_inside}
use Rattle.graph_machine.proofs.wiring.wire.Goals as goal

pub wire_node-requires-clause-from : goal.wire_node-requires-clause-from
wire_node-requires-clause-from c =
    let g = c.args.graph.now.nodes in
    let entry : option_map plain (option_copied c.node.result) ≡ node_at g c.loop-key.key = c.node.ensures.value ∙ ap (node_at g) c.new.ensures in
    let all : All (λ (l : Link). l.from < length c.args.outs.now) (links_at (node_at g c.loop-key.key)) = from_inside g (length c.args.outs.now) c.requires.sound c.requires.past c.loop-key.key in
    subst (λ (e : Option Node). All (λ (l : Link). l.from < length c.loop-key.rows) (links_at e)) (sym entry)
    (subst (λ n. All (λ (l : Link). l.from < n) (links_at (node_at g c.loop-key.key))) (sym c.loop-key.invariant.wired.whole) all)

pub loop-key-init : goal.loop-key-init
loop-key-init c = record {
  wired = wired_none c.args.graph.now.nodes (length c.args.outs.now) (given c.args.outs.now) c.args.tables.now c.args.rows.now c.requires.no_count c.requires.no_link c.requires.rows_whole;
  whole = ap (λ l. length l) c.requires.no_count;
}

pub loop-key-preserved : goal.loop-key-preserved
loop-key-preserved c =
    let g = c.args.graph.now.nodes in
    let entry : option_map plain (option_copied c.node.result) ≡ node_at g c.loop-key.key = c.node.ensures.value ∙ ap (node_at g) c.new.ensures in
    record {
      wired = wired_more g c.loop-key.key (length c.args.outs.now) (given c.args.outs.now) c.loop-key.tables _ c.loop-key.rows c.wire_node.new.rows c.wire_node.new.counts c.loop-key.invariant.whole
          c.loop-key.invariant.wired
          (subst (λ (e : Option Node). WiresLinks (given c.args.outs.now) c.loop-key.key (links_at e) c.wire_node.new.counts c.loop-key.rows c.wire_node.new.rows) entry c.in_ok-wire_node.ensures.wires)
          (subst (λ (e : Option Node). length (links_at e) < 2147483648) entry c.in_ok-wire_node.ensures.few) c.in_ok-push.ensures;
      whole = omega (arith, ap (λ l. length l) c.in_ok-push.ensures, length-append c.loop-key.tables (c.wire_node.new.counts ∷ []), c.loop-key.invariant.whole);
    }

pub returns-clause-wired : goal.returns-clause-wired
returns-clause-wired c =
    let end : c.loop-key.key ≡ length c.args.outs.now = omega (arith, c.loop-key-test.false, c.loop-key.auto.key-end) in
    wired_all c.args.graph.now.nodes (length c.args.outs.now) (given c.args.outs.now) c.loop-key.tables c.loop-key.rows c.requires.past
    (subst (λ n. WiredBelow c.args.graph.now.nodes n (length c.args.outs.now) (given c.args.outs.now) c.loop-key.tables c.loop-key.rows) end c.loop-key.invariant.wired)
