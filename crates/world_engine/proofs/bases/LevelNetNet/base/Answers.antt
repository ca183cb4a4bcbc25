use Rattle.world_engine.specs.Running.{given_by}
use Rattle.world_engine.proofs.BaseSteps.{cell-base}
use Rattle.world_engine.proofs.bases.LevelNetNet.base.Goals as goal

pub returns : goal.returns
returns c =
    let m = c.args.self.now.things.now in
    cell-base m (given_by m c.args.self.now.cells.now.cells) c.args.self.now.bases.now c.args.self.now.based c.args.cell
