use Rattle.std.proofs.Common.{sym, subst}
use Rattle.circuit.specs.declared.Pos.{Pos}
use Rattle.circuit.specs.Circuit.{State, IsDue}
use Rattle.power_rules.specs.World.{world_circuit}
use Rattle.replay_engine.specs.Running.{Running, circuit_of, state_in}
use Rattle.replay_engine.proofs.Held.{state-seen}
use Rattle.replay_engine.proofs.replay.Replay.is_done.Goals as goal

pub returns-clause-done : goal.returns-clause-done
returns-clause-done c = λ done.
    let w = c.self.inside in
    subst (λ (r : Running). (key : Pos) → IsDue (world_circuit r.plan r.marks) (state_in r) key → ⊥) c.self.view_is
    (subst (λ (s : State Pos). (key : Pos) → IsDue (circuit_of w.things) s key → ⊥) (sym (state-seen w.things w.cells.time w.cells.cells w.latest.items)) (c.is_quiet.ensures.quiet done))

pub returns-clause-left : goal.returns-clause-left
returns-clause-left c = λ left.
    let w = c.self.inside in
    subst (λ (r : Running). (key : Pos) × IsDue (world_circuit r.plan r.marks) (state_in r) key) c.self.view_is
    (subst (λ (s : State Pos). (key : Pos) × IsDue (circuit_of w.things) s key) (sym (state-seen w.things w.cells.time w.cells.cells w.latest.items)) (c.is_quiet.ensures.due left))
