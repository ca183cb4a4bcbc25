use Rattle.std.proofs.Common.{arith, length}
use Rattle.wire_net.specs.HandNet.{length-hand_from}
use Rattle.wire_net.proofs.tests.HandNetNet.cells.Goals as goal

pub returns : goal.returns
returns c = omega (arith, c.len.ensures, c.args.self.now.bases.ok.0, length-hand_from (length c.args.self.now.bases.items) 0 c.args.self.now.bases.items c.args.self.now.first.now c.args.self.now.second.now)
