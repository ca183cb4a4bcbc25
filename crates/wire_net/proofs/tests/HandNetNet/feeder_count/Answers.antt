use Rattle.std.proofs.Common.{ap, sym, length}
use Rattle.wire_net.specs.Net.{Cell}
use Rattle.wire_net.specs.HandNet.{hand-at}
use Rattle.wire_net.proofs.tests.HandNetNet.feeder_count.Goals as goal

pub returns : goal.returns
returns c = sym (ap (λ (x : Cell). length x.feeders) (hand-at c.args.self.now.bases.items c.args.self.now.first.now c.args.self.now.second.now c.args._cell c.requires))
