use Rattle.graph.proofs.FoldSteps.{fold_in_order, fold_at_events}
use Rattle.constant_fold.proofs.laws.fold_keeps_the_order.Goals as goal

pub returns : goal.returns
returns c = record { runs = fold_in_order; events = fold_at_events }
