use Rattle.std.proofs.Common.{◌∙◌, ap, sym, subst}
use Rattle.circuit.specs.Bounds.{Bounded}
use Rattle.circuit.specs.Circuit.{put, attend}
use Rattle.graph.specs.GraphCircuit.{graph_circuit}
use Rattle.cell_queue.specs.Held.{Holding, cell_of, CanFollow}
use Rattle.graph_machine.specs.Playing.{held_state, fired_by}
use Rattle.graph_machine.proofs.FireSteps.{fired_can_follow, fired_bounded, fires_one}
use Rattle.graph_machine.proofs.ScreenSteps.{faced_taken}
use Rattle.graph_machine.proofs.events.fire_next.Goals as goal

pub change-requires-clause-follows : goal.change-requires-clause-follows
change-requires-clause-follows g c =
    let first = c.in_ok-key.ensures.taken.0 in
    let is = c.in_ok-key.ensures.taken.1 in
    let held = c.cell.ensures ∙ ap (λ (h : Holding). cell_of h.cells c.in_ok-key.key) is in
    let fired = c.fired-cell.ensures ∙ ap (λ t. fired_by c.args.net.now t c.in_ok-key.key c.cell.result) (c.now.ensures ∙ ap (λ (h : Holding). h.time) is) in
    subst (λ (h : Holding). CanFollow h.time (cell_of h.cells c.in_ok-key.key) c.fired-cell.result) (sym is)
    (fired_can_follow c.args.net.now c.args.cells.now c.in_ok-key.key c.requires.playing first c.in-Some.component (sym c.role.ensures ∙ c.in-Some.is) c.cell.result c.fired-cell.result held fired)

pub change-requires-clause-bounded : goal.change-requires-clause-bounded
change-requires-clause-bounded g c =
    let first = c.in_ok-key.ensures.taken.0 in
    let is = c.in_ok-key.ensures.taken.1 in
    let held = c.cell.ensures ∙ ap (λ (h : Holding). cell_of h.cells c.in_ok-key.key) is in
    let fired = c.fired-cell.ensures ∙ ap (λ t. fired_by c.args.net.now t c.in_ok-key.key c.cell.result) (c.now.ensures ∙ ap (λ (h : Holding). h.time) is) in
    let C = graph_circuit c.args.net.now.nodes in
    subst (λ (h : Holding). Bounded C (put C (held_state h) c.in_ok-key.key c.fired-cell.result)) (sym is)
    (fired_bounded c.args.net.now c.args.cells.now c.in_ok-key.key c.requires.playing first c.in-Some.component (sym c.role.ensures ∙ c.in-Some.is) c.cell.result c.fired-cell.result held fired)

pub returns-in-Some-clause-state : goal.returns-in-Some-clause-state
returns-in-Some-clause-state g c =
    let first = c.in_ok-key.ensures.taken.0 in
    let is = c.in_ok-key.ensures.taken.1 in
    let held = c.cell.ensures ∙ ap (λ (h : Holding). cell_of h.cells c.in_ok-key.key) is in
    let fired = c.fired-cell.ensures ∙ ap (λ t. fired_by c.args.net.now t c.in_ok-key.key c.cell.result) (c.now.ensures ∙ ap (λ (h : Holding). h.time) is) in
    let C = graph_circuit c.args.net.now.nodes in
    fires_one c.args.net.now c.args.cells.now c.in_ok-key.key c.requires.playing first c.in-Some.component (sym c.role.ensures ∙ c.in-Some.is) c.cell.result c.fired-cell.result held fired
    (held_state c.change.new.cells) (c.change.ensures.state ∙ ap (λ (h : Holding). attend C (put C (held_state h) c.in_ok-key.key c.fired-cell.result)) is)

pub change-requires-clause-faced : goal.change-requires-clause-faced
change-requires-clause-faced g c = faced_taken c.args.net.now c.args.cells.now c.take_due.new.self c.take_due.result c.args.screen.now c.take_due.ensures.taken c.requires.faced
