use Rattle.std.specs.Prelude.{OnOk}
use Rattle.std.proofs.Common.{sym, subst}
use Rattle.circuit.specs.declared.Pos.{Pos}
use Rattle.circuit.specs.Circuit.{State, Clicks, IsDue}
use Rattle.power_rules.specs.World.{world_circuit}
use Rattle.replay_engine.specs.Running.{Running, circuit_of, state_in, state_of, seen_as}
use Rattle.replay_engine.proofs.Held.{state-seen}
use Rattle.replay_engine.proofs.Playing.{none_due, none_now}
use Rattle.replay_engine.proofs.replay.Replay.click.Goals as goal

pub returns-clause-taken : goal.returns-clause-taken
returns-clause-taken c =
    let w = c.self.inside in
    let m = w.things in
    let l = w.latest.items in
    let new = c.take_click.new.cells in
    let first = subst (λ (s : State Pos). OnOk c.take_click.result (Clicks (circuit_of m) c.args.pos c.args.click s (state_of m new))) (sym (state-seen m w.cells.time w.cells.cells l)) c.take_click.ensures.taken in
    let both = subst (λ (s : State Pos). OnOk c.take_click.result (Clicks (circuit_of m) c.args.pos c.args.click (state_in (seen_as m w.cells.time w.cells.cells l)) s)) (sym (state-seen m new.time new.cells l)) first in
    subst (λ (r : Running). OnOk c.take_click.result (Clicks (world_circuit r.plan r.marks) c.args.pos c.args.click (state_in r) (state_in (seen_as m new.time new.cells l)))) c.self.view_is both

-- nothing is due in the one state, so nothing is in the other
abbrev Quiet : Running → State Pos → Type 0
Quiet r s = (key : Pos) → IsDue (world_circuit r.plan r.marks) s key → ⊥

pub returns-clause-none : goal.returns-clause-none
returns-clause-none c =
    let w = c.self.inside in
    let m = w.things in
    let l = w.latest.items in
    let n = c.self.invariant.numbered in
    let p = c.self.invariant.playing in
    let new = c.take_click.new.cells in
    let q = c.take_click.ensures.playing in
    subst (λ (r : Running). Quiet r (state_in r) → Quiet r (state_in (seen_as m new.time new.cells l))) c.self.view_is
    (λ none.
    subst (λ (s : State Pos). (key : Pos) → IsDue (circuit_of m) s key → ⊥) (sym (state-seen m new.time new.cells l))
    (none_due m n new (c.take_click.ensures.none
    (none_now m n w.cells p.holding.whole p.idle (subst (λ (s : State Pos). (key : Pos) → IsDue (circuit_of m) s key → ⊥) (state-seen m w.cells.time w.cells.cells l) none)))))
