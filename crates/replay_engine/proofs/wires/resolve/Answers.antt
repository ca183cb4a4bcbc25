use Rattle.std.proofs.Common.{◌∙◌, sym}
use Rattle.replay_engine.specs.Running.{given_by}
use Rattle.replay_engine.specs.WireThings.{things_closed}
use Rattle.replay_engine.proofs.Reached.{feeders-things}
use Rattle.replay_engine.proofs.wires.resolve.Goals as goal

pub invariant_of-resolve_noted : goal.invariant_of-resolve_noted
invariant_of-resolve_noted c = record { net_closed = things_closed c.args.things.now c.count.ensures.numbered (given_by c.args.things.now c.args.cells.now.cells) }

pub resolve_noted-requires-clause-made : goal.resolve_noted-requires-clause-made
resolve_noted-requires-clause-made c = c.requires.made ∙ sym (feeders-things c.args.things.now (given_by c.args.things.now c.args.cells.now.cells))
