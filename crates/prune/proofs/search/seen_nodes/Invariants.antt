use Rattle.std.proofs.Common.{[]}
use Rattle.prune.specs.Found.{plain_search}
use Rattle.prune.proofs.SearchSteps.{IsSearching, AreOuterFound, work}
use Rattle.prune.proofs.search.seen_nodes.Given as goal

abbrev pub invariant-loop-key : goal.invariant-loop-key
invariant-loop-key l = record { searching : IsSearching l.graph.nodes [] (plain_search l.search); outers : AreOuterFound l.graph.nodes (plain_search l.search) }

abbrev pub decreases-loop-key : goal.decreases-loop-key
decreases-loop-key l = work (plain_search l.search)
