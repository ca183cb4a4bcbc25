use Rattle.std.proofs.Common.{ℕ, ◌+◌, ◌*◌, ◌<◌, length}
use Rattle.graph.specs.Graph.{Lives}
use Rattle.graph.specs.Steps.{Dedups}
use Rattle.pass_frame.specs.Took.{Took}
use Rattle.pass_frame.proofs.Sweeps.{DoneBefore}
use Rattle.clamp_dedup.specs.Single.{IsSingle}
use Rattle.clamp_dedup.specs.Weights.{IsEmpty}
use Rattle.clamp_dedup.proofs.DedupPass.run.Given as goal

abbrev pub invariant-loop-key : goal.invariant-loop-key
invariant-loop-key l = record {
  took : Took Dedups l.initial.graph.nodes l.took l.graph.nodes;
  single : DoneBefore IsSingle l.graph.nodes l.key-items l.key-index;
  lived : (k : ℕ) → Lives l.graph.nodes k → Lives l.initial.graph.nodes k;
  empty : IsEmpty l.weights.slots.items;
  room : (k : ℕ) → Lives l.initial.graph.nodes k → 2 * k + 1 < length l.weights.slots.items;
}
