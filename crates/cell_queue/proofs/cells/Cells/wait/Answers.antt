use Rattle.std.proofs.Common.{◌≡◌, ◌≢◌, ◌≤◌, ap, subst, sym, ◌∙◌, arith}
use Rattle.circuit.specs.declared.Cell.{Cell}
use Rattle.cell_queue.specs.Held.{Holding, cell_of}
use Rattle.cell_queue.proofs.HeldSteps.{due_soon}
use Rattle.tick_queue.specs.RingLaws.{ring_in_time}
use Rattle.cell_queue.proofs.cells.Cells.wait.Goals as goal

pub left_until-requires : goal.left_until-requires
left_until-requires c =
    let here : cell_of c.self.inside.cells.items c.args.key ≡ c.cell-cell.result = ap (λ (h : Holding). cell_of h.cells c.args.key) c.self.view_is ∙ sym c.cell-cell.ensures in
    let waits : (cell_of c.self.inside.cells.items c.args.key).due ≢ 0 = λ e. c.if-cell-eq0.false (ap (λ cell. cell.due) (sym here) ∙ e) in
    let soon = due_soon _ _ _ c.self.inside.cells.items c.self.invariant (ring_in_time _ _) c.args.key waits in
    omega (arith, c.now-time.ensures, ap (λ (x : Cell). x.due) here, soon.1)

pub returns-clause-soon : goal.returns-clause-soon
returns-clause-soon c =
    let here : cell_of c.self.inside.cells.items c.args.key ≡ c.cell-cell.result = ap (λ (h : Holding). cell_of h.cells c.args.key) c.self.view_is ∙ sym c.cell-cell.ensures in
    let waits : (cell_of c.self.inside.cells.items c.args.key).due ≢ 0 = λ e. c.if-cell-eq0.false (ap (λ cell. cell.due) (sym here) ∙ e) in
    let soon = due_soon _ _ _ c.self.inside.cells.items c.self.invariant (ring_in_time _ _) c.args.key waits in
    let due = ap (λ (x : Cell). x.due) here in
    (subst (λ (h : Holding). h.time ≤ (cell_of h.cells c.args.key).due) c.self.view_is soon.0, omega (arith, c.now-time.ensures, due, soon.1, soon.0, c.left_until.ensures))
