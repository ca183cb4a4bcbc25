use Rattle.std.proofs.Common.{sym}
use Rattle.node_finder.proofs.TickSteps.{tick_inside, tick_outside}
use Rattle.node_finder.proofs.add_tick.Goals as goal

pub returns-in_ok-insert : goal.returns-in_ok-insert
returns-in_ok-insert c = λ rest before. tick_inside c.args.build.now c.args.tick rest c.args.ticks.now c.insert.new.self c.in-Some.cell (sym c.in-Some.ensures.found) c.in_ok-insert.ensures.updates before

pub returns-in_default : goal.returns-in_default
returns-in_default c = λ rest before. tick_outside c.args.build.now c.args.tick rest c.args.ticks.now (sym c.in_default.ensures.found) before
