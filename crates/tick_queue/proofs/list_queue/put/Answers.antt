use Rattle.std.proofs.Common.{arith}
use Rattle.tick_queue.specs.Ticks.{is_up_to}
use Rattle.tick_queue.proofs.TickSteps.{insert-put_in, prefix_len-le}
use Rattle.tick_queue.proofs.list_queue.put.Goals as goal

pub insert-requires : goal.insert-requires
insert-requires g c = omega (arith, c.count_before-place.ensures, prefix_len-le (is_up_to c.args.tick.due c.args.tick.priority) c.deref.result.now)

pub returns-clause-put : goal.returns-clause-put
returns-clause-put g c =
    let inserted = rw c.unwrap.ensures at c.insert.ensures.items in
    let place = rw c.deref.ensures.value at c.count_before-place.ensures in
    rw (inserted, place) (insert-put_in c.args.tick c.args.ticks.now.items)
