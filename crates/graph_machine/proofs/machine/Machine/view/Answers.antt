use Rattle.std.proofs.Common.{◌≤◌, ap, ◌∙◌}
use Rattle.std.proofs.lemmas.List.Elements.{All-same}
use Rattle.circuit.specs.Circuit.{view}
use Rattle.graph.specs.GraphCircuit.{graph_circuit}
use Rattle.graph_machine.specs.Playing.{Playing, state_in}
use Rattle.graph_machine.proofs.ShownSteps.{screen-view, screen_small}
use Rattle.graph_machine.proofs.machine.Machine.view.Goals as goal

pub returns-clause-values : goal.returns-clause-values
returns-clause-values c =
    let m = c.self.inside in
    let i = c.self.invariant in
    c.copy_from_slice.ensures.after
    ∙ c.shown.ensures.value
    ∙ screen-view m.net m.cells i.playing m.screen i.outputs c.shown.ensures.whole i.faced
    ∙ ap (λ (p : Playing). view (graph_circuit p.nodes) (state_in p)) c.self.view_is

pub returns-clause-small : goal.returns-clause-small
returns-clause-small c =
    let m = c.self.inside in
    let i = c.self.invariant in
    All-same (λ n. n ≤ 15) c.copy_from_slice.new.self m.screen.shown (c.copy_from_slice.ensures.after ∙ c.shown.ensures.value) (screen_small m.net m.cells i.playing m.screen i.outputs c.shown.ensures.whole i.faced)
