use Rattle.std.proofs.Common.{arith}
use Rattle.wiring.proofs.Turning.{itself_start, itself_more}
use Rattle.wiring.proofs.turn.push_itself.Goals as goal

pub loop-number-init : goal.loop-number-init
loop-number-init c = itself_start c.args.lists.now

pub loop-number-preserved : goal.loop-number-preserved
loop-number-preserved c =
    itself_more c.args.lists.now c.loop-number.lists c.push.new.self c.loop-number.number (omega arith) c.loop-number.invariant c.in_ok-push.ensures
