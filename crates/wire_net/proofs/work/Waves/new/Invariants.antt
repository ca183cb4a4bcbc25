use Rattle.std.proofs.Common.{◌≡◌, ◌<◌, ◌≤◌, ℕ, [], length, take}
use Rattle.wire_net.specs.Net.{cell_at}
use Rattle.wire_net.specs.Listed.{list_at}
use Rattle.wire_net.specs.WaveSteps.{IsTurned}
use Rattle.wire_net.proofs.work.Waves.new.Given as goal

abbrev pub invariant-loop-cell : goal.invariant-loop-cell
invariant-loop-cell g l = record {
  turned : IsTurned l.feeders l.fed;
  long : length l.feeders ≡ length (g.N.Net.net l.net);
  done : (i : ℕ) → i < l.cell → list_at l.feeders i ≡ (cell_at (g.N.Net.net l.net) i).feeders;
  rest : (i : ℕ) → l.cell ≤ i → list_at l.feeders i ≡ [];
}

abbrev pub invariant-loop-index : goal.invariant-loop-index
invariant-loop-index g l = record {
  turned : IsTurned l.feeders l.fed;
  long : length l.feeders ≡ length (g.N.Net.net l.net);
  done : (i : ℕ) → i < l.cell → list_at l.feeders i ≡ (cell_at (g.N.Net.net l.net) i).feeders;
  now : list_at l.feeders l.cell ≡ take l.index (cell_at (g.N.Net.net l.net) l.cell).feeders;
  rest : (i : ℕ) → l.cell < i → list_at l.feeders i ≡ [];
}
