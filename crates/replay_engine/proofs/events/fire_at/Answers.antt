use Rattle.std.proofs.Common.{◌≡◌, ◌<◌, ◌≤◌, ℕ, cond, length, sym, ap, ◌∙◌, subst, arith}
use Rattle.circuit.specs.declared.Pos.{Pos}
use Rattle.circuit.specs.declared.Cell.{Cell}
use Rattle.cell_counts.specs.Held.{IsNow, cell_of}
use Rattle.build.specs.Place.{same_place}
use Rattle.replay_engine.specs.Things.{held}
use Rattle.replay_engine.specs.Running.{circuit_of, state_of, FiresOne}
use Rattle.replay_engine.proofs.Held.{spot-there}
use Rattle.replay_engine.proofs.Firing.{told, Why, nothing_there, fired_there, not_due_there, comes_later, latest-set}
use Rattle.replay_engine.specs.declared.events.Unlawful.TheVariants.{Twice, NotDue, Priority}
use Rattle.replay_engine.proofs.events.fire_at.Goals as goal

pub returns-in_default-clause-refused : goal.returns-in_default-clause-refused
returns-in_default-clause-refused c =
    let m = c.args.things.now in
    told (Why m c.args.cells.now c.args.latest.now c.args.pos) NotDue
    (nothing_there m c.count.ensures.numbered c.args.cells.now c.args.latest.now c.args.pos c.requires.late (sym c.number.ensures.found ∙ c.in_default.is))

pub returns-then-latest-number-clause-refused : goal.returns-then-latest-number-clause-refused
returns-then-latest-number-clause-refused c =
    let m = c.args.things.now in
    let latest = c.args.latest.now in
    told (Why m c.args.cells.now latest c.args.pos) Twice
    (fired_there m c.args.cells.now latest c.args.pos c.in-Some.number (sym c.number.ensures.found ∙ c.in-Some.is) (c.if-latest-number.true ∙ c.now-time.ensures))

pub returns-then-cell-time-clause-refused : goal.returns-then-cell-time-clause-refused
returns-then-cell-time-clause-refused c =
    let m = c.args.things.now in
    let latest = c.args.latest.now in
    told (Why m c.args.cells.now latest c.args.pos) NotDue
    (not_due_there m c.args.cells.now latest c.args.pos c.in-Some.number (sym c.number.ensures.found ∙ c.in-Some.is)
    (λ e. c.if-latest-number.false (e ∙ sym c.now-time.ensures))
    (λ e. c.if-cell-time.true (ap (λ (x : Cell). x.due) c.cell-cell.ensures ∙ e ∙ sym c.now-time.ensures)))

pub returns-then-not-comes_first-clause-refused : goal.returns-then-not-comes_first-clause-refused
returns-then-not-comes_first-clause-refused c =
    let m = c.args.things.now in
    let h = c.args.cells.now in
    let latest = c.args.latest.now in
    let other = subst (λ (x : Cell). (o : ℕ) × (o < length h.cells) × IsNow h.time (cell_of h.cells o) × ((cell_of h.cells o).priority < x.priority)) c.cell-cell.ensures (c.comes_first.ensures.later c.if-not-comes_first.true) in
    told (Why m h latest c.args.pos) Priority
    (comes_later m c.count.ensures.numbered h latest c.args.pos c.in-Some.number c.requires.playing.idle c.requires.playing.holding.whole c.requires.late (sym c.number.ensures.found ∙ c.in-Some.is)
    (λ e. c.if-latest-number.false (e ∙ sym c.now-time.ensures))
    (sym (ap (λ (x : Cell). x.due) c.cell-cell.ensures) ∙ c.if-cell-time.false ∙ c.now-time.ensures) other)

pub fire_now-requires-clause-first : goal.fire_now-requires-clause-first
fire_now-requires-clause-first c =
    let h = c.args.cells.now in
    let inside : c.in-Some.number < length c.args.things.now.spots = c.in-Some.ensures.below in
    let now : (cell_of h.cells c.in-Some.number).due ≡ h.time = sym (ap (λ (x : Cell). x.due) c.cell-cell.ensures) ∙ c.if-cell-time.false ∙ c.now-time.ensures in
    record {
      inside = omega (arith, inside, c.requires.playing.holding.whole);
      due = record { waits = λ z. omega (arith, z, now, c.requires.late); now = now };
      least = subst (λ (x : Cell). (o : ℕ) → IsNow h.time (cell_of h.cells o) → x.priority ≤ (cell_of h.cells o).priority) c.cell-cell.ensures (c.comes_first.ensures.first c.if-not-comes_first.false);
    }

pub returns-clause-fired : goal.returns-clause-fired
returns-clause-fired c =
    let m = c.args.things.now in
    let there = spot-there m c.count.ensures.numbered c.args.pos c.in-Some.number (sym c.number.ensures.found ∙ c.in-Some.is) in
    subst (λ (p : Pos). FiresOne (circuit_of m) (state_of m c.args.cells.now) (state_of m c.fire_now.new.cells) p) there.1 c.fire_now.ensures.fired

pub returns-clause-latest : goal.returns-clause-latest
returns-clause-latest c = λ place.
    let m = c.args.things.now in
    latest-set m c.count.ensures.numbered c.args.latest.now c.now-time.result c.args.pos c.in-Some.number c.requires.whole (sym c.number.ensures.found ∙ c.in-Some.is) place
    ∙ ap (λ (t : ℕ). cond (same_place place c.args.pos) t (held m c.args.latest.now 0 place)) c.now-time.ensures
