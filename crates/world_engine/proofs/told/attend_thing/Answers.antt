use Rattle.std.proofs.Common.{◌≡◌, sym, ◌∙◌, subst}
use Rattle.circuit.specs.declared.Pos.{Pos}
use Rattle.cell_queue.specs.Held.{Holding}
use Rattle.wiring.specs.Things.{spot}
use Rattle.wiring.specs.Numbers.{spot_number}
use Rattle.world_engine.specs.Running.{IsHolding}
use Rattle.world_engine.specs.Levels.{reads_by, HaveAttended}
use Rattle.world_engine.proofs.LevelSteps.{attended_idle, attended_set, wire_idle}
use Rattle.world_engine.proofs.ToldSteps.{reading_there, reading_follows, reading_holds}
use Rattle.world_engine.proofs.told.attend_thing.Goals as goal

pub returns-then-is_wire_of-clause-attended : goal.returns-then-is_wire_of-clause-attended
returns-then-is_wire_of-clause-attended c =
    let m = c.args.things.now in
    let p = spot m c.args.number in
    attended_idle m c.args.cells.now.time c.args.levels.now c.args.cells.now.cells p
    (λ cell. wire_idle m c.args.cells.now.time (reads_by m c.args.levels.now) p cell (sym c.is_wire_of.ensures ∙ c.if-is_wire_of.true))

pub hold-requires-clause-follows : goal.hold-requires-clause-follows
hold-requires-clause-follows c =
    let m = c.args.things.now in
    let h = c.args.cells.now in
    let p = spot m c.args.number in
    let there = spot_number m c.count.ensures.numbered c.args.number c.requires.inside in
    let role = sym c.role_of.ensures ∙ c.in-Some.is in
    let is = reading_there m h c.args.levels.now p c.args.number c.in-Some.component c.attended_of-cell.result there role c.attended_of-cell.ensures in
    reading_follows m c.count.ensures.numbered h c.args.levels.now p c.args.number c.attended_of-cell.result there is

pub returns-clause-attended : goal.returns-clause-attended
returns-clause-attended c =
    let m = c.args.things.now in
    let h = c.args.cells.now in
    let p = spot m c.args.number in
    let there = spot_number m c.count.ensures.numbered c.args.number c.requires.inside in
    let role = sym c.role_of.ensures ∙ c.in-Some.is in
    let is = reading_there m h c.args.levels.now p c.args.number c.in-Some.component c.attended_of-cell.result there role c.attended_of-cell.ensures in
    subst (λ (x : Holding). HaveAttended m h.time c.args.levels.now h.cells x.cells (λ (q : Pos). q ≡ p)) (sym c.hold.ensures)
    (attended_set m h.time c.args.levels.now c.count.ensures.numbered h.cells p c.args.number c.attended_of-cell.result c.requires.holding.whole there is)

pub returns-clause-holding : goal.returns-clause-holding
returns-clause-holding c =
    let m = c.args.things.now in
    let h = c.args.cells.now in
    let p = spot m c.args.number in
    let there = spot_number m c.count.ensures.numbered c.args.number c.requires.inside in
    let role = sym c.role_of.ensures ∙ c.in-Some.is in
    let is = reading_there m h c.args.levels.now p c.args.number c.in-Some.component c.attended_of-cell.result there role c.attended_of-cell.ensures in
    subst (λ (x : Holding). IsHolding m x) (sym c.hold.ensures)
    (reading_holds m h c.args.levels.now c.args.number c.attended_of-cell.result (λ (q : Pos). q ≡ p) c.requires.holding
    (attended_set m h.time c.args.levels.now c.count.ensures.numbered h.cells p c.args.number c.attended_of-cell.result c.requires.holding.whole there is))
