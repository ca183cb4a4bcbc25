use Rattle.std.proofs.Common.{refl}
use Rattle.wiring.proofs.Turning.{row_start, row_more, row_all}
use Rattle.wiring.proofs.turn.turn_row.Goals as goal

pub loop-tap-init : goal.loop-tap-init
loop-tap-init c = row_start c.args.lists.now c.args.reader c.args.row.now

pub loop-tap-preserved : goal.loop-tap-preserved
loop-tap-preserved c =
    row_more c.args.lists.now c.loop-tap.lists c.push.new.self c.args.reader c.args.row.now c.loop-tap.tap-index _ c.requires.reader c.requires.below c.loop-tap-test.true refl c.loop-tap.invariant c.in_ok-push.ensures

pub returns : goal.returns
returns c = row_all c.args.lists.now c.loop-tap.lists c.args.reader c.args.row.now c.loop-tap.tap-index c.loop-tap-test.false c.loop-tap.invariant
