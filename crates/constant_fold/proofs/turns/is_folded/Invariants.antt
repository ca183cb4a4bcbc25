use Rattle.constant_fold.specs.Tended.{NoneFold}
use Rattle.constant_fold.proofs.turns.is_folded.Given as goal

abbrev pub invariant-loop-key : goal.invariant-loop-key
invariant-loop-key l = NoneFold l.graph.nodes l.first 0 l.key-index
