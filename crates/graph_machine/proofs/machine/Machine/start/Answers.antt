use Rattle.std.proofs.Common.{◌≡◌, ◌<◌, ◌∙◌, ap, sym, subst, arith, length}
use Rattle.circuit.specs.Circuit.{outs, start}
use Rattle.graph.specs.Graph.{Nodes, node_at, node_count}
use Rattle.graph.specs.GraphCircuit.{begin_at, graph_circuit}
use Rattle.graph.specs.Sound.{IsSound}
use Rattle.cell_queue.specs.Held.{Holding, cell_of}
use Rattle.graph_machine.specs.Places.{AreClicked}
use Rattle.graph_machine.specs.Wired.{given}
use Rattle.graph_machine.specs.Playing.{IsPlaying, AllStill, Attends}
use Rattle.graph_machine.proofs.StartSteps.{begins_soon, Begins, start_state, start_playing, start_still, none_at_start}
use Rattle.graph_machine.proofs.machine.Machine.start.Goals as goal

pub new-requires-clause-soon : goal.new-requires-clause-soon
new-requires-clause-soon c =
    begins_soon c.args.graph.now.nodes c.in_ok-cells.cells.items c.requires (λ key below. c.in_ok-cells.ensures.begin key (omega (arith, below, c.in_ok-cells.ensures.count)))

pub new-requires-2 : goal.new-requires-2
new-requires-2 c = c.in_ok-shown.ensures ∙ ap (λ (n : Nodes). (graph_circuit n).shown) (sym c.in_ok-net.ensures.nodes)

pub invariant_of-result : goal.invariant_of-result
invariant_of-result c =
    let w = c.in_ok-net.net in
    let cells = c.in_ok-cells.cells.items in
    let after = c.attend_all.new.cells.cells in
    let nodes : w.nodes ≡ c.args.graph.now.nodes = c.in_ok-net.ensures.nodes in
    let begins : Begins w cells = record {
      sound = subst IsSound (sym nodes) c.requires;
      whole = c.in_ok-cells.ensures.count ∙ c.len.ensures.len;
      past = c.len.ensures.past;
      gives = λ key. subst (λ (n : Nodes). given w.outs key ≡ outs (graph_circuit n) (record { time = 0; cells = λ other. begin_at (node_at n other) }) key) (sym nodes) (c.in_ok-net.ensures.outs key);
      begin = λ key below. c.in_ok-cells.ensures.begin key (omega (arith, below, c.len.ensures.len)) ∙ ap (λ (n : Nodes). begin_at (node_at n key)) (sym nodes);
    } in
    let all : Attends w 0 (λ key. key < length w.outs) cells after =
    subst (λ (h : Holding). Attends w h.time (λ key. key < length w.outs) h.cells after) c.in_ok-cells-2.ensures c.attend_all.ensures.all in
    let time : c.attend_all.new.cells.time ≡ 0 = c.attend_all.ensures.time ∙ ap (λ (h : Holding). h.time) c.in_ok-cells-2.ensures in
    let many : node_count w.nodes ≡ node_count c.args.graph.now.nodes = ap (λ (n : Nodes). node_count n) nodes in
    record {
      playing = subst (λ t. IsPlaying w (record { time = t; cells = after })) (sym time) (start_playing w cells after begins all);
      still = subst (λ t. AllStill w (record { time = t; cells = after })) (sym time) (start_still w cells after begins all);
      none = none_at_start c.attend_all.new.cells time;
      early = omega (arith, time);
      outputs = c.in_ok-screen.ensures.keys;
      screen = c.in_ok-screen.ensures.count;
      faced = c.in_ok-screen.ensures.faced;
      takers = subst (λ (n : Nodes). AreClicked n c.in_ok-clicked.clicked) (sym nodes) c.in_ok-clicked.ensures;
      enough = omega (arith, many, c.in_ok-fired.ensures.room, c.node_count.ensures);
    }

pub returns-clause-start : goal.returns-clause-start
returns-clause-start c =
    let w = c.in_ok-net.net in
    let cells = c.in_ok-cells.cells.items in
    let after = c.attend_all.new.cells.cells in
    let nodes : w.nodes ≡ c.args.graph.now.nodes = c.in_ok-net.ensures.nodes in
    let begins : Begins w cells = record {
      sound = subst IsSound (sym nodes) c.requires;
      whole = c.in_ok-cells.ensures.count ∙ c.len.ensures.len;
      past = c.len.ensures.past;
      gives = λ key. subst (λ (n : Nodes). given w.outs key ≡ outs (graph_circuit n) (record { time = 0; cells = λ other. begin_at (node_at n other) }) key) (sym nodes) (c.in_ok-net.ensures.outs key);
      begin = λ key below. c.in_ok-cells.ensures.begin key (omega (arith, below, c.len.ensures.len)) ∙ ap (λ (n : Nodes). begin_at (node_at n key)) (sym nodes);
    } in
    let all : Attends w 0 (λ key. key < length w.outs) cells after =
    subst (λ (h : Holding). Attends w h.time (λ key. key < length w.outs) h.cells after) c.in_ok-cells-2.ensures c.attend_all.ensures.all in
    let time : c.attend_all.new.cells.time ≡ 0 = c.attend_all.ensures.time ∙ ap (λ (h : Holding). h.time) c.in_ok-cells-2.ensures in
    (λ i. record { time = time i; cells = cell_of after }) ∙ start_state w cells after begins all ∙ ap (λ (n : Nodes). start (graph_circuit n)) nodes
