-- All is fresh.
use Rattle.constant_fold.proofs.WaitLists.{fresh_waits}
use Rattle.constant_fold.proofs.waits.Waits.new.Goals as goal

pub returns : goal.returns
returns c = fresh_waits c.args.keys.now c.in_ok-work.work.items c.in_ok-lists.lists.items c.greatest_number.result c.in_ok-work.ensures c.in_ok-lists.ensures.empty c.in_ok-lists.ensures.count c.greatest_number.ensures
