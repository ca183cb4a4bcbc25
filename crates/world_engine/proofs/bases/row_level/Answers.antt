use Rattle.std.proofs.Common.{arith, ◌<◌, length, slice_index}
use Rattle.std.proofs.lemmas.Grind.{common_steps}
use Rattle.wire_net.specs.Laws.{greatest-more}
use Rattle.world_engine.proofs.bases.row_level.Goals as goal

pub loop-number-preserved : goal.loop-number-preserved
loop-number-preserved c =
    let inside : c.loop-number.number-index < length c.args.row.now = omega arith in
    let more = greatest-more (λ n. slice_index c.args.levels.now n) c.args.row.now c.loop-number.number-index inside in
    grind (arith, common_steps, more)
