use Rattle.std.proofs.Common.{◌<◌, length, arith}
use Rattle.replay_engine.specs.Running.{spot}
use Rattle.replay_engine.proofs.Firing.{due_place}
use Rattle.replay_engine.proofs.Playing.{none_due}
use Rattle.replay_engine.proofs.events.is_quiet.Goals as goal

pub returns-in-Some-clause-due : goal.returns-in-Some-clause-due
returns-in-Some-clause-due c = λ left.
    let m = c.args.things.now in
    let l = c.in-Some.ensures.least in
    let inside : l.key < length m.spots = omega (arith, l.inside, c.requires.whole) in
    (spot m l.key, due_place m c.count.ensures.numbered c.args.cells.now c.requires.idle l.key inside l.due)

pub returns-in-None-clause-quiet : goal.returns-in-None-clause-quiet
returns-in-None-clause-quiet c = λ done. none_due c.args.things.now c.count.ensures.numbered c.args.cells.now (c.least.ensures.none c.in-None.is)
