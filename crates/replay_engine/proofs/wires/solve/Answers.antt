use Rattle.std.proofs.Common.{◌∙◌, sym}
use Rattle.replay_engine.specs.Running.{given_by}
use Rattle.replay_engine.specs.WireThings.{length-things, things_closed}
use Rattle.replay_engine.proofs.wires.solve.Goals as goal

pub solve_into-requires : goal.solve_into-requires
solve_into-requires c = c.requires.powers_whole ∙ sym (length-things c.args.things.now (given_by c.args.things.now c.args.cells.now.cells))

pub invariant_of-solve_into : goal.invariant_of-solve_into
invariant_of-solve_into c = record { net_closed = things_closed c.args.things.now c.count.ensures.numbered (given_by c.args.things.now c.args.cells.now.cells) }
