use Rattle.std.proofs.Common.{sym, ◌∙◌, refl}
use Rattle.tick_queue.proofs.NodeSteps.{full-first}
use Rattle.tick_queue.proofs.slot.Slot.take.Goals as goal

pub returns-in_err-key-clause-none : goal.returns-in_err-key-clause-none
returns-in_err-key-clause-none g c = λ _. absurd (full-first c.self.inside.nodes c.in_ok-front.field-0.now c.self.invariant (c.in_ok-front.ensures.variant.0 refl) (sym c.in_ok-front.ensures.lookup ∙ c.in_err-key.was))
