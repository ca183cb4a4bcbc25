use Rattle.std.proofs.Common.{length}
use Rattle.wiring.proofs.LevelLaws.{back_below, side_below, below_as}
use Rattle.world_engine.proofs.ToldSteps.{read_is}
use Rattle.world_engine.proofs.told.reads_of.Goals as goal

pub row_level-back-requires : goal.row_level-back-requires
row_level-back-requires c =
    let m = c.args.things.now in
    below_as (length m.spots) (length c.args.levels.now) c.args.wiring.now.back c.args.number c.back.result.now (back_below m c.count.ensures.numbered c.args.wiring.now c.requires.wired) c.back.ensures c.requires.whole

pub row_level-side-requires : goal.row_level-side-requires
row_level-side-requires c =
    let m = c.args.things.now in
    below_as (length m.spots) (length c.args.levels.now) c.args.wiring.now.side c.args.number c.side.result.now (side_below m c.count.ensures.numbered c.args.wiring.now c.requires.wired) c.side.ensures c.requires.whole

pub returns : goal.returns
returns c =
    read_is c.args.things.now c.count.ensures.numbered c.args.wiring.now c.requires.wired c.args.levels.now c.requires.plain c.args.number c.requires.inside c.requires.dry
    c.back.result.now c.side.result.now c.row_level-back.result c.strengthened.result c.row_level-side.result
    c.back.ensures c.side.ensures c.row_level-back.ensures c.strengthened.ensures c.row_level-side.ensures
