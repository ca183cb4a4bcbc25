use Rattle.world_order.proofs.Playing.{not_false}
use Rattle.world_order.proofs.tick.has_left.Goals as goal

pub returns-clause-none : goal.returns-clause-none
returns-clause-none c = λ h. c.is_done.ensures.done (not_false c.is_done.result h)
