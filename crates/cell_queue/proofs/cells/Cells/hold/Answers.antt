use Rattle.std.proofs.Common.{◌≡◌, ◌<◌, length, ap, subst, sym, ◌∙◌, List}
use Rattle.circuit.specs.declared.Cell.{Cell}
use Rattle.cell_queue.specs.Held.{Holding, cell_of}
use Rattle.cell_queue.proofs.HeldSteps.{room_for, held_more}
use Rattle.cell_queue.proofs.cells.Cells.hold.Goals as goal

pub add_tick-requires-clause-room : goal.add_tick-requires-clause-room
add_tick-requires-clause-room c =
    let inside : c.args.key < length c.self.inside.cells.items = subst (λ (h : Holding). c.args.key < length h.cells) (sym c.self.view_is) c.requires.inside in
    let none : (cell_of c.self.inside.cells.items c.args.key).due ≡ 0 =
    ap (λ (x : Cell). x.due) (sym (c.cell_at-waited.ensures ∙ ap (λ (l : List Cell). cell_of l c.args.key) c.deref.ensures.value)) ∙ c.if-not-waited.true in
    room_for _ _ c.self.inside.cells.items c.args.key c.self.invariant inside none

pub invariant_of-self : goal.invariant_of-self
invariant_of-self c =
    let inside : c.args.key < length c.self.inside.cells.items = subst (λ (h : Holding). c.args.key < length h.cells) (sym c.self.view_is) c.requires.inside in
    let none : (cell_of c.self.inside.cells.items c.args.key).due ≡ 0 =
    ap (λ (x : Cell). x.due) (sym (c.cell_at-waited.ensures ∙ ap (λ (l : List Cell). cell_of l c.args.key) c.deref.ensures.value)) ∙ c.if-not-waited.true in
    held_more _ _ _ _ c.self.inside.cells.items c.args.key c.args.cell c.self.invariant inside none c.add_tick.ensures.ticks c.add_tick.ensures.room
