use Rattle.std.proofs.Common.{◌≡◌, sym, ap, ◌∙◌, subst}
use Rattle.circuit.specs.declared.Cell.{Cell}
use Rattle.circuit.specs.Component.{attended}
use Rattle.build.specs.Roles.{first_at}
use Rattle.cell_counts.specs.Held.{Holding}
use Rattle.replay_engine.specs.Running.{Attends, IsHolding, reads_of}
use Rattle.replay_engine.proofs.Steps.{attend-set, attend-nothing}
use Rattle.replay_engine.proofs.AttendSteps.{attended_there, hold_follows, set_holding}
use Rattle.replay_engine.proofs.attend.attend_at.Goals as goal

pub returns-in_default-number-clause-attends : goal.returns-in_default-number-clause-attends
returns-in_default-number-clause-attends c =
    attend-nothing c.args.things.now c.count.ensures.numbered c.args.cells.now.time c.args.powers.now c.args.cells.now.cells c.args.pos (sym c.number.ensures.found ∙ c.in_default-number.is)

pub hold-requires-clause-follows : goal.hold-requires-clause-follows
hold-requires-clause-follows c =
    let m = c.args.things.now in
    let h = c.args.cells.now in
    let there = sym c.number.ensures.found ∙ c.in-Some-number.is in
    let is = c.attended-cell.ensures ∙ ap (λ (x : Cell). attended h.time c.in-Some.component (first_at m.plan c.args.pos) (reads_of m h.cells c.args.powers.now c.args.pos) x) c.cell.ensures in
    hold_follows m c.count.ensures.numbered h c.args.powers.now c.args.pos c.in-Some-number.number c.attended-cell.result there
    (attended_there m h c.args.powers.now c.args.pos c.in-Some-number.number c.in-Some.component c.attended-cell.result there (sym c.role.ensures ∙ c.in-Some.is) is)

pub returns-clause-attends : goal.returns-clause-attends
returns-clause-attends c =
    let m = c.args.things.now in
    let h = c.args.cells.now in
    let there = sym c.number.ensures.found ∙ c.in-Some-number.is in
    let is = c.attended-cell.ensures ∙ ap (λ (x : Cell). attended h.time c.in-Some.component (first_at m.plan c.args.pos) (reads_of m h.cells c.args.powers.now c.args.pos) x) c.cell.ensures in
    subst (λ (x : Holding). Attends m h.time c.args.powers.now h.cells x.cells (λ q. q ≡ c.args.pos)) (sym c.hold.ensures)
    (attend-set m c.count.ensures.numbered h.time c.args.powers.now h.cells c.args.pos c.in-Some-number.number c.attended-cell.result c.requires.holding.whole there
    (attended_there m h c.args.powers.now c.args.pos c.in-Some-number.number c.in-Some.component c.attended-cell.result there (sym c.role.ensures ∙ c.in-Some.is) is))

pub returns-clause-holding : goal.returns-clause-holding
returns-clause-holding c =
    let m = c.args.things.now in
    let h = c.args.cells.now in
    let there = sym c.number.ensures.found ∙ c.in-Some-number.is in
    let is = c.attended-cell.ensures ∙ ap (λ (x : Cell). attended h.time c.in-Some.component (first_at m.plan c.args.pos) (reads_of m h.cells c.args.powers.now c.args.pos) x) c.cell.ensures in
    subst (λ (x : Holding). IsHolding m x) (sym c.hold.ensures)
    (set_holding m h c.args.powers.now c.in-Some-number.number c.attended-cell.result (λ q. q ≡ c.args.pos) c.requires.holding
    (attend-set m c.count.ensures.numbered h.time c.args.powers.now h.cells c.args.pos c.in-Some-number.number c.attended-cell.result c.requires.holding.whole there
    (attended_there m h c.args.powers.now c.args.pos c.in-Some-number.number c.in-Some.component c.attended-cell.result there (sym c.role.ensures ∙ c.in-Some.is) is)))
