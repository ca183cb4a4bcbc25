use Rattle.std.proofs.Common.{◌+◌, List, sym, subst}
use Rattle.circuit.specs.declared.Pos.{Pos}
use Rattle.circuit.specs.Circuit.{State, Ticks}
use Rattle.power_rules.specs.World.{world_circuit}
use Rattle.cell_queue.specs.Held.{Holding}
use Rattle.world_engine.specs.Running.{Running, circuit_of, state_in, state_of, seen_as, FiresAll}
use Rattle.world_engine.proofs.Held.{state-seen}
use Rattle.world_engine.proofs.world.World.tick.Goals as goal

pub returns-clause-ticked : goal.returns-clause-ticked
returns-clause-ticked c =
    let w = c.self.inside in
    let m = w.things in
    let new = c.fire_due.new.cells in
    let first = subst (λ (h : Holding). FiresAll (circuit_of m) (state_of m h) (state_of m new)) c.advance.ensures c.fire_due.ensures.fired in
    let second = subst (λ (s : State Pos). FiresAll (circuit_of m) s (state_of m new)) (sym (state-seen m (w.cells.time + 1) w.cells.cells)) first in
    let both = subst (λ (s : State Pos). FiresAll (circuit_of m) (state_in (seen_as m (w.cells.time + 1) w.cells.cells)) s) (sym (state-seen m new.time new.cells)) second in
    subst (λ (r : Running). (x : List Pos) × Ticks (world_circuit r.plan r.marks) x (state_in r) (state_in (seen_as m new.time new.cells))) c.self.view_is
    (both.keys, record { order = both.order; after = both.after })
