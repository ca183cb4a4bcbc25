use Rattle.std.proofs.Common.{◌≡◌, ◌≤◌, ℕ, ◌∙◌, ap, sym, subst, arith}
use Rattle.circuit.specs.declared.Cell.{Cell}
use Rattle.circuit.specs.Circuit.{State}
use Rattle.circuit.specs.Component.{clicked}
use Rattle.graph.specs.Graph.{Nodes, node_count}
use Rattle.graph.specs.GraphCircuit.{graph_circuit}
use Rattle.graph_machine.specs.Places.{AreClicked}
use Rattle.graph_machine.specs.Playing.{Playing, state_in, held_state, TakesClick}
use Rattle.graph_machine.proofs.StartSteps.{none_after_click}
use Rattle.graph_machine.proofs.machine.Machine.click.Goals as goal

pub invariant_of-self : goal.invariant_of-self
invariant_of-self g c =
    let m = c.self.inside in
    let time : c.set_value.new.cells.time ≡ m.cells.time = ap (λ (s : State ℕ). s.time) c.set_value.ensures.state in
    record {
      playing = c.set_value.ensures.playing;
      still = c.set_value.ensures.still;
      none = none_after_click m.net.nodes m.cells c.set_value.new.cells c.in-Some.key c.unwrap-value.result c.self.invariant.none c.set_value.ensures.state;
      early = omega (arith, time, c.self.invariant.early);
      outputs = c.set_value.ensures.keys ∙ c.self.invariant.outputs ∙ ap (λ (n : Nodes). (graph_circuit n).shown) (sym c.set_value.ensures.nodes);
      screen = c.set_value.ensures.screen;
      faced = c.set_value.ensures.faced;
      takers = subst (λ (n : Nodes). AreClicked n m.clicked) (sym c.set_value.ensures.nodes) c.self.invariant.takers;
      enough = subst (λ (n : Nodes). node_count n ≤ m.fired.room) (sym c.set_value.ensures.nodes) c.self.invariant.enough;
    }

pub returns-clause-taken : goal.returns-clause-taken
returns-clause-taken g c =
    let m = c.self.inside in
    let taker = c.in-Some.ensures.some in
    let by : TakesClick m.net.nodes c.args.pos c.args.click (held_state m.cells) (held_state c.set_value.new.cells) c.args.steps.now c.set_value.new.steps = record {
      clicks = record {
        key = c.in-Some.key;
        component = c.unwrap-component.result;
        value = c.unwrap-value.result;
        there = sym c.role.ensures ∙ c.unwrap-component.ensures;
        place = taker.place;
        takes = ap (λ (x : Cell). clicked c.unwrap-component.result c.args.click x.value) (sym c.cell.ensures) ∙ sym c.clicked.ensures.value ∙ c.unwrap-value.ensures;
        after = c.set_value.ensures.state;
      };
      reads = omega (arith, c.set_value.ensures.read);
    } in
    subst (λ (p : Playing). TakesClick p.nodes c.args.pos c.args.click (state_in p) (held_state c.set_value.new.cells) c.args.steps.now c.set_value.new.steps) c.self.view_is by
