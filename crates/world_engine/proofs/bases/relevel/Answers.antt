use Rattle.std.proofs.Common.{◌∙◌, sym}
use Rattle.wiring.proofs.Reached.{feeders-cells}
use Rattle.world_engine.specs.Running.{given_by}
use Rattle.world_engine.proofs.BaseSteps.{level_closed}
use Rattle.world_engine.proofs.bases.relevel.Goals as goal

pub invariant_of-resolve_noted : goal.invariant_of-resolve_noted
invariant_of-resolve_noted c = record {
  within = c.requires.within;
  fed = c.requires.wired.feeders;
  based = c.requires.based;
  net_closed = level_closed c.args.things.now c.count.ensures.numbered (given_by c.args.things.now c.args.cells.now.cells);
}

pub resolve_noted-requires-clause-made : goal.resolve_noted-requires-clause-made
resolve_noted-requires-clause-made c = c.requires.made ∙ c.requires.wired.feeders ∙ sym (feeders-cells c.args.things.now (given_by c.args.things.now c.args.cells.now.cells))
