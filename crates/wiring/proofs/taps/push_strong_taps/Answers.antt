use Rattle.std.proofs.Common.{◌∙◌}
use Rattle.std.specs.Option.{option_to_list}
use Rattle.block_table.specs.Facts.{opposite}
use Rattle.block_table.specs.declared.Side.{Side}
use Rattle.block_table.specs.declared.Side.TheVariants.{Down}
use Rattle.build.specs.Place.{beside, sides}
use Rattle.wiring.specs.Taps.{strong_taps}
use Rattle.wiring.proofs.Joined.{joined_more}
use Rattle.wiring.proofs.taps.push_strong_taps.Goals as goal

pub loop-side-preserved : goal.loop-side-preserved
loop-side-preserved c =
    joined_more (λ (side : Side). strong_taps c.args.build.now (beside side c.args.pos) (opposite side)) sides c.loop-side.side-index Down
    c.args.taps.now.items c.loop-side.taps.items c.push_tap.new.taps.items (option_to_list c.strong_tap.result) c.loop-side-test.true c.loop-side.invariant
    (c.strong_tap.ensures ∙ (λ j. strong_taps c.args.build.now (c.beside.ensures j) (c.opposite.ensures j))) c.in_ok-push_tap.ensures
