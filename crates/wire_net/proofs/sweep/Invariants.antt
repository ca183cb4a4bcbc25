use Rattle.std.proofs.Common.{◌≡◌, ◌<◌, ℕ, false, slice_index}
use Rattle.wire_net.specs.Net.{cell_at, power_under}
use Rattle.wire_net.specs.Sweeps.{IsBetween}
use Rattle.wire_net.proofs.sweep.Given as goal

abbrev pub invariant-loop-cell : goal.invariant-loop-cell
invariant-loop-cell g l = record {
  round : (k : ℕ) → IsBetween (g.N.Net.net l.net) k 0 l.fn.powers → IsBetween (g.N.Net.net l.net) k l.cell l.powers;
  right : l.changes ≡ false → (j : ℕ) → j < l.cell → slice_index l.powers j ≡ power_under l.powers (cell_at (g.N.Net.net l.net) j);
}
