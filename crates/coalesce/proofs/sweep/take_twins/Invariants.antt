use Rattle.graph.specs.Steps.{Coalesces}
use Rattle.pass_frame.specs.Took.{Took}
use Rattle.coalesce.specs.Tried.{IsKnown}
use Rattle.coalesce.proofs.SweepSteps.{Own, GoesOn}
use Rattle.coalesce.proofs.TriedSteps.{Left}
use Rattle.coalesce.proofs.sweep.take_twins.Given as goal

abbrev pub invariant-loop-gone : goal.invariant-loop-gone
invariant-loop-gone l = record {
  known : IsKnown l.graph.nodes l.known.fans.lists.items l.known.groups.lists;
  took : Took Coalesces l.initial.graph.nodes l.took l.graph.nodes;
  left : Left l.initial.graph.nodes l.graph.nodes l.waiting.numbers l.keep l.took l.gone-items l.gone-index;
  own : Own l.initial.graph.nodes l.graph.nodes l.keep l.gone-items l.gone-index;
  goes : GoesOn l.initial.graph.nodes l.graph.nodes l.keep;
}
