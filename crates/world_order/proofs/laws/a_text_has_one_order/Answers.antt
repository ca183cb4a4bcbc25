use Rattle.world_order.proofs.NoBadLine.{one_order}
use Rattle.world_order.proofs.laws.a_text_has_one_order.Goals as goal

pub returns : goal.returns
returns c = one_order
