use Rattle.std.proofs.Common.{ap, ◌∙◌}
use Rattle.circuit.specs.Circuit.{start}
use Rattle.graph.specs.Graph.{Nodes}
use Rattle.graph.specs.GraphCircuit.{graph_circuit}
use Rattle.bounded_reads.proofs.TwinRuns.{steps_read}
use Rattle.bounded_reads.proofs.read_by_calls.Goals as goal

pub returns : goal.returns
returns g c =
    let g₀ = c.in_ok-machine.ensures.nodes ∙ c.requires in
    let g₁ = c.in-Ok.ensures.nodes ∙ g₀ in
    let g₂ = c.tick.ensures.nodes ∙ g₁ in
    let g₃ = c.tick-2.ensures.nodes ∙ g₂ in
    let at_start = c.in_ok-machine.ensures.start ∙ ap (λ (n : Nodes). start (graph_circuit n)) c.requires in
    steps_read _ _ _ _ g₀ g₁ g₂ g₃ _ _ _ _ _ at_start _ _ _ _ c.args.steps.now c.click.new.steps c.tick.new.steps c.tick-2.new.steps c.tick-3.new.steps
    c.in-Ok.ensures.taken c.tick.ensures.ticked c.tick-2.ensures.ticked c.tick-3.ensures.ticked
