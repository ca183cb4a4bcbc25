-- Each step of the compiler keeps a graph sound, and what it leads to refines the graph. The steps of the chain of passes are those
-- of the definition, in its order.
use Rattle.std.specs.Prelude.{Bool}
use Rattle.graph.specs.Graph.{Nodes}
use Rattle.graph.specs.Sound.{IsSound}
use Rattle.graph.specs.Refines.{Refines}
use Rattle.graph.specs.Steps.{Clamps, Dedups, Unreaches, Folds, Coalesces, Prunes}
use Rattle.graph.specs.Done.{Step}
use Rattle.pass_frame.specs.EitherLaws.{either_sound, either_refines}
use Rattle.pass_frame.specs.WhenLaws.{when_sound, when_refines}
use Rattle.clamp_dedup.specs.ClampLaws.{clamp_keeps_sound, clamp_refines}
use Rattle.clamp_dedup.specs.DedupLaws.{dedup_keeps_sound, dedup_refines}
use Rattle.unreach.specs.UnreachLaws.{unreach_keeps_sound, unreach_refines}
use Rattle.constant_fold.specs.FoldLaws.{fold_keeps_sound, fold_refines}
use Rattle.coalesce.specs.CoalesceLaws.{coalesce_sound, coalesce_refines}
use Rattle.prune.specs.PruneLaws.{prune_sound, prune_refines}

pub step_sound : (pruning : Bool) (old new : Nodes) → IsSound old → Step pruning old new → IsSound new
step_sound pruning =
    either_sound Clamps _ clamp_keeps_sound (either_sound Dedups _ dedup_keeps_sound (either_sound Unreaches _ unreach_keeps_sound
    (either_sound Folds _ fold_keeps_sound (either_sound Coalesces _ coalesce_sound (when_sound pruning Prunes prune_sound)))))

pub step_refines : (pruning : Bool) (old new : Nodes) → IsSound old → Step pruning old new → Refines old new
step_refines pruning =
    either_refines Clamps _ clamp_refines (either_refines Dedups _ dedup_refines (either_refines Unreaches _ unreach_refines
    (either_refines Folds _ fold_refines (either_refines Coalesces _ coalesce_refines (when_refines pruning Prunes prune_refines)))))
