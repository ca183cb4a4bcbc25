use Rattle.std.proofs.Common.{◌≡◌}
use Rattle.wire_net.specs.Net.{feeders_of, IsRight}
use Rattle.wire_net.specs.HandNet.{hand_net}
use Rattle.wire_net.proofs.tests.check.Given as goal

abbrev pub invariant-loop-cell : goal.invariant-loop-cell
invariant-loop-cell g l = record {
  right : IsRight (hand_net l.net.bases.items l.net.first.now l.net.second.now) l.powers.items;
  made : l.work ≡ feeders_of (hand_net l.net.bases.items l.net.first.now l.net.second.now);
}
