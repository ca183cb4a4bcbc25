use Rattle.std.proofs.Common.{ℕ, length, ap, ◌∙◌, arith}
use Rattle.circuit.specs.Circuit.{State}
use Rattle.cell_queue.specs.Held.{Holding}
use Rattle.graph_machine.specs.Playing.{held_state}
use Rattle.graph_machine.proofs.TickSteps.{due_le, due_within, fire_all_time}
use Rattle.graph_machine.proofs.events.tick.Goals as goal

pub fire_due-requires-clause-room : goal.fire_due-requires-clause-room
fire_due-requires-clause-room g c = omega (arith, due_le c.args.net.now.nodes (held_state c.advance.new.self), c.requires.room)

pub returns-clause-time : goal.returns-clause-time
returns-clause-time g c =
    ap (λ (s : State ℕ). s.time) c.fire_due.ensures.fires.state ∙ fire_all_time c.args.net.now.nodes c.fire_due.ensures.fires.fires (held_state c.advance.new.self) ∙ ap (λ (h : Holding). h.time) c.advance.ensures

pub returns-clause-few : goal.returns-clause-few
returns-clause-few g c =
    omega (arith, c.fire_due.ensures.few, c.len.ensures.few, c.len.ensures.len, ap length c.keys.ensures, ap length c.keys-before.ensures, due_within c.args.net.now.nodes (held_state c.advance.new.self) (length c.args.net.now.outs) c.len.ensures.past)
