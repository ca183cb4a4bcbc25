use Rattle.std.proofs.Common.{ℕ}
use Rattle.graph.specs.Graph.{Lives}
use Rattle.graph.specs.Steps.{Unreaches}
use Rattle.pass_frame.specs.Took.{Took}
use Rattle.pass_frame.proofs.Sweeps.{DoneBefore}
use Rattle.unreach.specs.Reached.{HasBound, IsReached}
use Rattle.unreach.proofs.UnreachPass.run.Given as goal

abbrev pub invariant-loop-key : goal.invariant-loop-key
invariant-loop-key l = record {
  took : Took Unreaches l.initial.graph.nodes l.took l.graph.nodes;
  reached : DoneBefore (IsReached l.bounds.list.items) l.graph.nodes l.key-items l.key-index;
  lived : (k : ℕ) → Lives l.graph.nodes k → Lives l.initial.graph.nodes k;
  bounds : (k : ℕ) → Lives l.initial.graph.nodes k → HasBound l.graph.nodes l.bounds.list.items k;
}
