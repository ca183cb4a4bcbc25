use Rattle.std.proofs.Common.{ℕ}
use Rattle.graph.specs.Graph.{Lives}
use Rattle.graph.specs.Steps.{Clamps}
use Rattle.pass_frame.specs.Took.{Took}
use Rattle.pass_frame.proofs.Sweeps.{DoneBefore}
use Rattle.clamp_dedup.specs.Clamped.{IsClamped}
use Rattle.clamp_dedup.proofs.ClampPass.run.Given as goal

abbrev pub invariant-loop-key : goal.invariant-loop-key
invariant-loop-key l = record {
  took : Took Clamps l.initial.graph.nodes l.took l.graph.nodes;
  clamped : DoneBefore IsClamped l.graph.nodes l.key-items l.key-index;
  lived : (k : ℕ) → Lives l.graph.nodes k → Lives l.initial.graph.nodes k;
}
