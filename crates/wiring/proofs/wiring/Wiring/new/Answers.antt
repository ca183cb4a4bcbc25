use Rattle.wiring.specs.Wired.{Wired, Back, Side, Direct}
use Rattle.wiring.proofs.LevelLaws.{rows-below_as, made}
use Rattle.wiring.proofs.wiring.Wiring.new.Goals as goal

pub readers_of-requires-clause-back_below : goal.readers_of-requires-clause-back_below
readers_of-requires-clause-back_below c =
    rows-below_as c.args.things.now c.count-count.ensures.numbered Back c.in_ok-back.back c.count-count.result c.in_ok-back.ensures c.count-count.ensures.count

pub readers_of-requires-clause-side_below : goal.readers_of-requires-clause-side_below
readers_of-requires-clause-side_below c =
    rows-below_as c.args.things.now c.count-count.ensures.numbered Side c.in_ok-side.side c.count-count.result c.in_ok-side.ensures c.count-count.ensures.count

pub driven_of-requires-clause-below : goal.driven_of-requires-clause-below
driven_of-requires-clause-below c =
    rows-below_as c.args.things.now c.count-count.ensures.numbered Direct c.in_ok-direct.direct c.count-count.result c.in_ok-direct.ensures c.count-count.ensures.count

pub returns : goal.returns
returns c =
    let t : Wired = record { parts = c.in_ok-parts.parts.items; back = c.in_ok-back.back; side = c.in_ok-side.side; direct = c.in_ok-direct.direct; feeders = c.in_ok-feeders.feeders; readers = c.in_ok-readers.readers; driven = c.in_ok-driven.driven } in
    made c.args.things.now c.count-count.ensures.numbered t c.count-count.result c.count-count.ensures.count c.in_ok-parts.ensures c.in_ok-back.ensures c.in_ok-side.ensures c.in_ok-direct.ensures c.in_ok-feeders.ensures
    c.in_ok-readers.ensures c.in_ok-driven.ensures
