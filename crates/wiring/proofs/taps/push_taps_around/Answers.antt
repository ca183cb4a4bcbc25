use Rattle.std.proofs.Common.{false, refl}
use Rattle.block_table.specs.declared.Side.TheVariants.{Down}
use Rattle.build.specs.Place.{sides}
use Rattle.wiring.specs.Taps.{back_taps}
use Rattle.wiring.proofs.Joined.{joined_more}
use Rattle.wiring.proofs.taps.push_taps_around.Goals as goal

pub loop-side-preserved : goal.loop-side-preserved
loop-side-preserved c =
    joined_more (back_taps c.args.build.now false c.args.reader) sides c.loop-side.side-index Down
    c.args.taps.now.items c.loop-side.taps.items c.push_back_taps.new.taps.items _ c.loop-side-test.true c.loop-side.invariant refl c.in_ok-push_back_taps.ensures
