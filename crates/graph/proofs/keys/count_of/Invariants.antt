use Rattle.std.proofs.Common.{◌<◌, ◌≤◌, ◌^◌, ℕ, get_or}
use Rattle.graph.proofs.keys.count_of.Given as goal

abbrev pub invariant-loop-key : goal.invariant-loop-key
invariant-loop-key l = record {
  above : (k : ℕ) → k < l.key-index → get_or l.keys k 0 < l.count;
  few : l.count ≤ 2 ^ 32;
}
