use Rattle.std.proofs.Common.{sym, ap, ◌∙◌, subst}
use Rattle.circuit.specs.declared.Pos.{Pos}
use Rattle.circuit.specs.Circuit.{State, IsDue, later}
use Rattle.power_rules.specs.World.{world_circuit}
use Rattle.cell_counts.specs.Held.{Holding}
use Rattle.replay_engine.specs.Running.{Running, circuit_of, state_in, seen_as}
use Rattle.replay_engine.proofs.Held.{state-seen}
use Rattle.replay_engine.proofs.Playing.{none_now}
use Rattle.replay_engine.proofs.Seen.{fresh_seen}
use Rattle.replay_engine.proofs.replay.Replay.advance.Goals as goal

pub advance-requires-clause-none : goal.advance-requires-clause-none
advance-requires-clause-none c =
    let w = c.self.inside in
    let m = w.things in
    let p = c.self.invariant.playing in
    let none = subst (λ (r : Running). (key : Pos) → IsDue (world_circuit r.plan r.marks) (state_in r) key → ⊥) (sym c.self.view_is) c.requires.none in
    none_now m c.self.invariant.numbered w.cells p.holding.whole p.idle (subst (λ (s : State Pos). (key : Pos) → IsDue (circuit_of m) s key → ⊥) (state-seen m w.cells.time w.cells.cells w.latest.items) none)

pub returns-clause-fresh : goal.returns-clause-fresh
returns-clause-fresh c = λ key fired.
    let w = c.self.inside in
    fresh_seen w.things c.self.invariant.numbered w.cells.time c.advance.new.self.time c.advance.new.self.cells w.latest.items (ap (λ (h : Holding). h.time) c.advance.ensures) c.self.invariant.past key fired

pub returns-clause-later : goal.returns-clause-later
returns-clause-later c =
    let w = c.self.inside in
    ap (λ (h : Holding). state_in (seen_as w.things h.time h.cells w.latest.items)) c.advance.ensures ∙ ap (λ (r : Running). later (state_in r)) c.self.view_is
