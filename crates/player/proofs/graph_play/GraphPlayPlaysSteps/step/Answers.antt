use Rattle.std.proofs.Common.{◌≡◌, sym, subst}
use Rattle.graph.specs.Graph.{Nodes}
use Rattle.graph.specs.GraphCircuit.{graph_circuit}
use Rattle.graph_machine.specs.Outgoing.{reads_of}
use Rattle.graph_machine.specs.Playing.{state_in}
use Rattle.player.specs.AnyRun.{StepsOn}
use Rattle.player.specs.Noted.{fires_noted}
use Rattle.player.proofs.GraphRuns.{steps_on}
use Rattle.player.proofs.graph_play.GraphPlayPlaysSteps.step.Goals as goal

pub returns-clause-step : goal.returns-clause-step
returns-clause-step g c =
    let old = c.args.self.now.machine in
    let new = c.take_step.new.machine in
    let is_ordered = c.args.self.now.is_ordered in
    subst (λ (nodes : Nodes). StepsOn (graph_circuit old.nodes) (reads_of old.nodes) (fires_noted is_ordered old.nodes) c.args.step (state_in old) (state_in new) (λ count. count ≡ old.events) (λ count. count ≡ new.events)
    c.args.costs.now c.take_step.new.steps (fires_noted is_ordered nodes c.take_step.new.fired.keys)) (sym c.take_step.ensures.nodes)
    (steps_on old.nodes is_ordered c.args.step (state_in old) (state_in new) old.events new.events c.args.costs.now c.take_step.new.steps c.take_step.new.fired.keys c.take_step.ensures.step)
