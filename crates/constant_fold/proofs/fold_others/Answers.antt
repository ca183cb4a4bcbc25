-- Nothing is left to fold.
use Rattle.pass_frame.specs.Frame.{Stays}
use Rattle.constant_fold.proofs.fold_others.Goals as goal

pub returns-then-is_folded-clause-reaches : goal.returns-then-is_folded-clause-reaches
returns-then-is_folded-clause-reaches c = Stays
