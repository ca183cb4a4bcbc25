use Rattle.std.proofs.Common.{◌∙◌, sym}
use Rattle.wiring.proofs.Reached.{feeders-cells}
use Rattle.world_engine.specs.Running.{given_by}
use Rattle.world_engine.proofs.BaseSteps.{level_closed}
use Rattle.world_engine.proofs.bases.level_waves.Goals as goal

pub invariant_of-new : goal.invariant_of-new
invariant_of-new c = record {
  within = c.requires.within;
  fed = c.requires.wired.feeders;
  based = c.requires.based;
  net_closed = level_closed c.args.things.now c.count.ensures.numbered (given_by c.args.things.now c.args.cells.now.cells);
}

pub returns : goal.returns
returns c = c.in_ok-waves.ensures ∙ feeders-cells c.args.things.now (given_by c.args.things.now c.args.cells.now.cells) ∙ sym c.requires.wired.feeders
