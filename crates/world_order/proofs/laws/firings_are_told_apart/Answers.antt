use Rattle.world_order.proofs.Texts.{same_fires}
use Rattle.world_order.proofs.laws.firings_are_told_apart.Goals as goal

pub returns : goal.returns
returns c = λ ps qs m n A B a b e. same_fires ps qs m n A B a b e
