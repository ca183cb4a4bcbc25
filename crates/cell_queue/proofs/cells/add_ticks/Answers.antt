use Rattle.std.proofs.Common.{◌∙◌, arith, sym, subst, get_or, take, length-take}
use Rattle.std.proofs.lemmas.List.Sums.{count_by-le-length}
use Rattle.cell_queue.specs.Held.{nothing, IsSoon, waits}
use Rattle.cell_queue.proofs.HeldSteps.{queued_more, room_more, same_default}
use Rattle.cell_queue.proofs.cells.add_ticks.Goals as goal

pub add_tick-requires-clause-room : goal.add_tick-requires-clause-room
add_tick-requires-clause-room g c =
    omega (arith, c.loop-key.invariant.room, c.loop-key-test.true, count_by-le-length waits (take c.loop-key.key c.args.cells.now), length-take c.loop-key.key c.args.cells.now)

pub add_tick-requires-clause-soon : goal.add_tick-requires-clause-soon
add_tick-requires-clause-soon g c =
    subst (λ t. IsSoon t (get_or c.args.cells.now c.loop-key.key nothing)) (sym c.loop-key.invariant.time) (c.requires.soon c.loop-key.key nothing c.loop-key-test.true)

pub loop-key-preserved : goal.loop-key-preserved
loop-key-preserved g c = record {
  queued = queued_more _ _ c.args.cells.now c.loop-key.key _ c.loop-key-test.true (same_default c.args.cells.now c.loop-key.key _ _ c.loop-key-test.true) c.loop-key.invariant.queued c.add_tick.ensures.ticks;
  room = room_more c.args.cells.now c.loop-key.key _ _ _ c.loop-key-test.true (same_default c.args.cells.now c.loop-key.key _ _ c.loop-key-test.true) c.loop-key.invariant.room c.add_tick.ensures.room;
  time = c.add_tick.ensures.time ∙ c.loop-key.invariant.time;
}
