use Rattle.graph.specs.Steps.{Coalesces}
use Rattle.pass_frame.specs.Took.{Took}
use Rattle.coalesce.specs.Tried.{IsKnown}
use Rattle.coalesce.specs.Waiting.{AreFew, TwinsWait}
use Rattle.coalesce.proofs.SweepSteps.{Sweeping}
use Rattle.coalesce.proofs.TriedSteps.{left_to_do}
use Rattle.coalesce.proofs.sweep.take_all.Given as goal

abbrev pub invariant-loop-number : goal.invariant-loop-number
invariant-loop-number l = record {
  known : IsKnown l.graph.nodes l.known.fans.lists.items l.known.groups.lists;
  wait : TwinsWait l.graph.nodes l.waiting.numbers;
  few : AreFew l.graph.nodes l.waiting.numbers;
  took : Took Coalesces l.initial.graph.nodes l.took l.graph.nodes;
  sweeping : Sweeping l.initial.graph.nodes l.place l.graph.nodes;
}

abbrev pub decreases-loop-number : goal.decreases-loop-number
decreases-loop-number l = left_to_do l.graph.nodes l.waiting.numbers
