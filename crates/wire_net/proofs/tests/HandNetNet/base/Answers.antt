use Rattle.std.proofs.Common.{arith, ◌≡◌, ◌<◌, ap, length, slice_index, min}
use Rattle.wire_net.specs.Net.{Cell, cell_at}
use Rattle.wire_net.specs.HandNet.{hand_net, hand-at, length-hand_from}
use Rattle.wire_net.proofs.Lists.{at-default}
use Rattle.wire_net.proofs.tests.HandNetNet.base.Goals as goal

pub index-requires : goal.index-requires
index-requires c = omega (arith, c.args.self.now.bases.ok.0, length-hand_from (length c.args.self.now.bases.items) 0 c.args.self.now.bases.items c.args.self.now.first.now c.args.self.now.second.now)

pub returns : goal.returns
returns c =
    let at : (cell_at (hand_net c.args.self.now.bases.items c.args.self.now.first.now c.args.self.now.second.now) c.args.cell).base ≡ min 15 (slice_index c.args.self.now.bases.items c.args.cell) = ap (λ (x : Cell). x.base) (hand-at c.args.self.now.bases.items c.args.self.now.first.now c.args.self.now.second.now c.args.cell c.requires) in
    let inside : c.args.cell < length c.args.self.now.bases.items = omega (arith, c.requires, length-hand_from (length c.args.self.now.bases.items) 0 c.args.self.now.bases.items c.args.self.now.first.now c.args.self.now.second.now) in
    omega (arith, at, c.min.ensures, c.index.ensures, at-default c.args.self.now.bases.items c.args.cell c.index.result.now inside)
