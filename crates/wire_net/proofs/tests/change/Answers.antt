use Rattle.std.proofs.Common.{arith, ◌≡◌, ◌<◌, ◌∙◌, length}
use Rattle.wire_net.specs.HandNet.{hand_net, length-hand_from, hand_changed, hand_feeders}
use Rattle.std.proofs.lemmas.List.{length-set}
use Rattle.std.proofs.Common.{set}
use Rattle.wire_net.proofs.tests.change.Goals as goal

pub resolve-requires-clause-made : goal.resolve-requires-clause-made
resolve-requires-clause-made c = c.requires.made ∙ hand_feeders c.args.net.now.bases.items c.args.net.now.first.now c.args.net.now.second.now c.args.cell c.args.base

pub resolve-requires-clause-right : goal.resolve-requires-clause-right
resolve-requires-clause-right c = hand_changed c.args.net.now.bases.items c.args.net.now.first.now c.args.net.now.second.now c.args.cell c.args.base c.args.powers.now c.requires.right

pub resolve-requires-clause-cells : goal.resolve-requires-clause-cells
resolve-requires-clause-cells c = λ k h.
    let inside : c.args.cell < length (hand_net (set c.args.net.now.bases.items c.args.cell c.args.base) c.args.net.now.first.now c.args.net.now.second.now) =
    omega (
      arith,
      c.args.net.now.bases.ok.0,
      length-set c.args.net.now.bases.items c.args.cell c.args.base,
      length-hand_from (length (set c.args.net.now.bases.items c.args.cell c.args.base)) 0 (set c.args.net.now.bases.items c.args.cell c.args.base) c.args.net.now.first.now c.args.net.now.second.now,
    ) in
    let first : k ≡ 0 = omega arith in
    rw first inside

pub returns-then-cell-len-clause-made : goal.returns-then-cell-len-clause-made
returns-then-cell-len-clause-made c = c.resolve.ensures.made ∙ c.requires.made ∙ hand_feeders c.args.net.now.bases.items c.args.net.now.first.now c.args.net.now.second.now c.args.cell c.args.base
