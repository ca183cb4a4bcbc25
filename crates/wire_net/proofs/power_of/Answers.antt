use Rattle.std.proofs.Common.{arith, ◌<◌, ◌-◌, length, slice_index}
use Rattle.std.proofs.lemmas.Grind.{common_steps}
use Rattle.wire_net.specs.Net.{cell_at}
use Rattle.wire_net.specs.Laws.{greatest-more}
use Rattle.wire_net.proofs.power_of.Goals as goal

pub loop-index-preserved : goal.loop-index-preserved
loop-index-preserved g c =
    let inside : c.loop-index.index < length (cell_at (g.N.Net.net c.args.net.now) c.args.cell).feeders = grind (arith, common_steps) in
    let more = greatest-more (λ f. slice_index c.args.powers.now f - 1) (cell_at (g.N.Net.net c.args.net.now) c.args.cell).feeders c.loop-index.index inside in
    grind (arith, common_steps, more)
