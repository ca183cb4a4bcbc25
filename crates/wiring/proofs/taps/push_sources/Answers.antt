use Rattle.std.proofs.Common.{List, ◌++◌, false, refl, ap, ◌∙◌}
use Rattle.std.specs.List.{flat_map}
use Rattle.block_table.specs.declared.Side.{Side}
use Rattle.block_table.specs.declared.Side.TheVariants.{Down}
use Rattle.circuit.specs.declared.Pos.{Pos}
use Rattle.build.specs.Place.{sides}
use Rattle.wiring.specs.Reads.{direct_of}
use Rattle.wiring.specs.Taps.{back_taps}
use Rattle.wiring.proofs.Joined.{joined_more, joined_all}
use Rattle.wiring.proofs.Sources.{brought_joined}
use Rattle.wiring.proofs.taps.push_sources.Goals as goal

pub loop-side-preserved : goal.loop-side-preserved
loop-side-preserved c =
    joined_more (λ (side : Side). flat_map direct_of (back_taps c.args.build.now false c.args.wire side)) sides c.loop-side.side-index Down
    c.args.sources.now.items c.loop-side.sources.items c.push_sources_beside.new.sources.items _ c.loop-side-test.true c.loop-side.invariant refl c.in_ok-push_sources_beside.ensures

pub returns : goal.returns
returns c =
    joined_all (λ (side : Side). flat_map direct_of (back_taps c.args.build.now false c.args.wire side)) sides c.loop-side.side-index c.args.sources.now.items c.loop-side.sources.items c.loop-side-test.false c.loop-side.invariant
    ∙ ap (λ (places : List Pos). c.args.sources.now.items ++ places) (brought_joined direct_of (back_taps c.args.build.now false c.args.wire) sides)
