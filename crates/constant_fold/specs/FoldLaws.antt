-- The laws of Fold.
use Rattle.std.specs.Prelude.{◌<◌}
use Rattle.graph.specs.Graph.{Nodes}
use Rattle.graph.specs.Sound.{IsSound}
use Rattle.graph.specs.Steps.{Folds}
use Rattle.graph.specs.Refines.{Refines}
use Rattle.graph.specs.Measure.{measure}
use Rattle.graph.proofs.FoldSteps as steps

pub fold_keeps_sound : (old new : Nodes) → IsSound old → Folds old new → IsSound new
fold_keeps_sound old new sound step = steps.fold_sound old new sound step

pub fold_refines : (old new : Nodes) → IsSound old → Folds old new → Refines old new
fold_refines old new sound step = steps.fold_refines old new step

pub fold_falls : (old new : Nodes) → IsSound old → Folds old new → measure new < measure old
fold_falls old new sound step = steps.fold_falls old new step
