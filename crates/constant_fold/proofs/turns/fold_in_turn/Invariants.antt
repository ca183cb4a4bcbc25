use Rattle.constant_fold.specs.Tended.{AreListed}
use Rattle.constant_fold.proofs.TurnSteps.{Turned}
use Rattle.constant_fold.proofs.turns.fold_in_turn.Given as goal

abbrev pub invariant-loop-index : goal.invariant-loop-index
invariant-loop-index l = record {
  turned : Turned l.initial.graph.nodes l.graph.nodes l.keys l.again l.index;
  listed : AreListed l.graph.nodes l.keys;
}
