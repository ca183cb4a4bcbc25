use Rattle.std.proofs.Common.{◌∙◌}
use Rattle.replay_engine.specs.Running.{given_by}
use Rattle.replay_engine.specs.WireThings.{things_closed}
use Rattle.replay_engine.proofs.Reached.{feeders-things}
use Rattle.replay_engine.proofs.wires.new_waves.Goals as goal

pub invariant_of-new : goal.invariant_of-new
invariant_of-new c = record { net_closed = things_closed c.args.things.now c.count.ensures.numbered (given_by c.args.things.now c.args.cells.now.cells) }

pub returns : goal.returns
returns c = c.in_ok-waves.ensures ∙ feeders-things c.args.things.now (given_by c.args.things.now c.args.cells.now.cells)
