use Rattle.std.proofs.Common.{◌∙◌, sym}
use Rattle.wiring.proofs.LevelLaws.{length-cells}
use Rattle.world_engine.specs.Running.{given_by}
use Rattle.world_engine.proofs.BaseSteps.{level_closed}
use Rattle.world_engine.proofs.bases.solve_levels.Goals as goal

pub invariant_of-solve_into : goal.invariant_of-solve_into
invariant_of-solve_into c = record {
  within = c.requires.within;
  fed = c.requires.wired.feeders;
  based = c.requires.based;
  net_closed = level_closed c.args.things.now c.count.ensures.numbered (given_by c.args.things.now c.args.cells.now.cells);
}

pub solve_into-requires : goal.solve_into-requires
solve_into-requires c = c.requires.whole ∙ sym (length-cells c.args.things.now (given_by c.args.things.now c.args.cells.now.cells))
