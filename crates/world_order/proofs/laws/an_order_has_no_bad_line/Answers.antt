use Rattle.world_order.proofs.NoBadLine.{no_bad_line}
use Rattle.world_order.proofs.laws.an_order_has_no_bad_line.Goals as goal

pub returns : goal.returns
returns c = λ b w script few text order o line tick kind bad. no_bad_line b w script few text order o bad.front bad.rest bad.is tick bad.due bad.stands kind bad.has
