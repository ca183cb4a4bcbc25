use Rattle.coalesce.proofs.SourceSteps.{AreMet}
use Rattle.coalesce.proofs.sources.some_are_shared.Given as goal

abbrev pub invariant-loop-key : goal.invariant-loop-key
invariant-loop-key l = AreMet l.graph.nodes l.keys l.key-index l.met.marks.items
