use Rattle.std.proofs.Common.{sym, ap, ◌∙◌, subst, None, ◌≡◌, Some}
use Rattle.circuit.specs.declared.Pos.{Pos}
use Rattle.circuit.specs.declared.Cell.{Cell}
use Rattle.circuit.specs.Bounds.{BoundedAt}
use Rattle.circuit.specs.Circuit.{put, attend, with_value}
use Rattle.build.specs.Roles.{role_at}
use Rattle.cell_counts.specs.Held.{CanFollow}
use Rattle.replay_engine.specs.Numbers.{held-there}
use Rattle.replay_engine.specs.Things.{held, nothing}
use Rattle.replay_engine.specs.Running.{circuit_of, state_of, spot}
use Rattle.replay_engine.proofs.Held.{spot-there}
use Rattle.replay_engine.proofs.Follow.{clicked_follows}
use Rattle.replay_engine.proofs.Playing.{none_after_click}
use Rattle.replay_engine.proofs.Clicking.{refused_nothing, taken_click}
use Rattle.replay_engine.proofs.Within.{bounded_clicked}
use Rattle.replay_engine.proofs.events.take_click.Goals as goal

pub settle-requires-clause-follows : goal.settle-requires-clause-follows
settle-requires-clause-follows c =
    let at = sym c.number.ensures.found ∙ c.in-Some.is in
    subst (λ (x : Cell). CanFollow c.args.cells.now.time x (with_value c.cell_at-cell.result c.in-Some-clicked.value))
    (c.cell_at-cell.ensures ∙ held-there c.args.things.now c.args.cells.now.cells nothing c.args.pos c.in-Some.number at)
    (clicked_follows c.args.cells.now.time c.cell_at-cell.result c.in-Some-clicked.value)

pub settle-requires-clause-still : goal.settle-requires-clause-still
settle-requires-clause-still c = record { each = λ p other. c.requires.still.each p }

pub settle-requires-clause-bounded : goal.settle-requires-clause-bounded
settle-requires-clause-bounded c =
    let m = c.args.things.now in
    let w = c.count.ensures.numbered in
    let there = spot-there m w c.args.pos c.in-Some.number (sym c.number.ensures.found ∙ c.in-Some.is) in
    subst (λ (p : Pos). BoundedAt (role_at m.plan m.marks p) (with_value c.cell_at-cell.result c.in-Some-clicked.value)) (sym there.1)
    (bounded_clicked m w c.args.cells.now.time c.args.cells.now.cells c.args.pos c.args.click c.in-Some-role.component c.in-Some-clicked.value c.cell_at-cell.result c.requires.playing.holding.within
    (sym c.role.ensures ∙ c.in-Some-role.is) c.cell_at-cell.ensures (sym c.clicked.ensures.value ∙ c.in-Some-clicked.is))

pub settle-requires-clause-idle : goal.settle-requires-clause-idle
settle-requires-clause-idle c = λ none.
    let m = c.args.things.now in
    let there = spot-there m c.count.ensures.numbered c.args.pos c.in-Some.number (sym c.number.ensures.found ∙ c.in-Some.is) in
    let some : role_at m.plan m.marks c.args.pos ≡ Some c.in-Some-role.component = sym c.role.ensures ∙ c.in-Some-role.is in
    let clash : None ≡ Some c.in-Some-role.component = sym none ∙ ap (role_at m.plan m.marks) there.1 ∙ some in
    absurd (cc)

pub returns-in_default-clause-refused : goal.returns-in_default-clause-refused
returns-in_default-clause-refused c = refused_nothing c.args.things.now c.count.ensures.numbered c.args.pos c.args.click (sym c.number.ensures.found ∙ c.in_default.is)

pub returns-in-Some-clicked-clause-taken : goal.returns-in-Some-clicked-clause-taken
returns-in-Some-clicked-clause-taken c =
    let m = c.args.things.now in
    let w = c.count.ensures.numbered in
    let there = spot-there m w c.args.pos c.in-Some.number (sym c.number.ensures.found ∙ c.in-Some.is) in
    let cell = with_value c.cell_at-cell.result c.in-Some-clicked.value in
    let settled = c.settle.ensures.settled ∙ ap (λ (p : Pos). attend (circuit_of m) (put (circuit_of m) (state_of m c.args.cells.now) p cell)) there.1 in
    taken_click m c.args.pos c.args.click c.in-Some-role.component c.in-Some-clicked.value c.args.cells.now c.settle.new.cells c.cell_at-cell.result
    (sym c.role.ensures ∙ c.in-Some-role.is) c.cell_at-cell.ensures (sym c.clicked.ensures.value ∙ c.in-Some-clicked.is) settled

pub returns-in-Some-clicked-clause-none : goal.returns-in-Some-clicked-clause-none
returns-in-Some-clicked-clause-none c = λ none.
    let m = c.args.things.now in
    let w = c.count.ensures.numbered in
    let there = spot-there m w c.args.pos c.in-Some.number (sym c.number.ensures.found ∙ c.in-Some.is) in
    let held_there = c.cell_at-cell.ensures ∙ ap (held m c.args.cells.now.cells nothing) (sym there.1) in
    none_after_click m w c.args.cells.now c.settle.new.cells c.in-Some.number c.in-Some-clicked.value c.settle.ensures.playing.holding.whole there.0 none
    (c.settle.ensures.settled ∙ ap (λ (x : Cell). attend (circuit_of m) (put (circuit_of m) (state_of m c.args.cells.now) (spot m c.in-Some.number) (with_value x c.in-Some-clicked.value))) held_there)
