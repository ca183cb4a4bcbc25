use Rattle.graph.specs.Steps.{Folds}
use Rattle.graph.specs.Measure.{measure}
use Rattle.pass_frame.specs.Frame.{Reaches}
use Rattle.constant_fold.specs.Tended.{AllTended}
use Rattle.constant_fold.proofs.fold_all.Given as goal

abbrev pub invariant-loop-waits : goal.invariant-loop-waits
invariant-loop-waits l = record {
  reaches : Reaches Folds l.initial.graph.nodes l.graph.nodes;
  tended : AllTended l.graph.nodes l.waits.work.items l.waits.lists.items;
}

abbrev pub decreases-loop-waits : goal.decreases-loop-waits
decreases-loop-waits l = measure l.graph.nodes
