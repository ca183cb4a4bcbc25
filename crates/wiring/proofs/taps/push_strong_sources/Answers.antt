use Rattle.std.proofs.Common.{List, ap, ◌∙◌, ◌++◌}
use Rattle.std.specs.List.{flat_map}
use Rattle.std.specs.Option.{option_to_list}
use Rattle.block_table.specs.Facts.{opposite}
use Rattle.block_table.specs.declared.Side.{Side}
use Rattle.block_table.specs.declared.Side.TheVariants.{Down}
use Rattle.circuit.specs.declared.Pos.{Pos}
use Rattle.build.specs.Place.{beside, sides}
use Rattle.wiring.specs.Reads.{direct_of}
use Rattle.wiring.specs.Taps.{strong_taps}
use Rattle.wiring.proofs.Joined.{joined_more, joined_all}
use Rattle.wiring.proofs.Sources.{brought_joined}
use Rattle.wiring.proofs.taps.push_strong_sources.Goals as goal

pub loop-side-preserved : goal.loop-side-preserved
loop-side-preserved c =
    joined_more (λ (side : Side). flat_map direct_of (strong_taps c.args.build.now (beside side c.args.pos) (opposite side))) sides c.loop-side.side-index Down
    c.args.sources.now.items c.loop-side.sources.items c.push_source.new.sources.items (option_to_list c.strong_source.result) c.loop-side-test.true c.loop-side.invariant
    (c.strong_source.ensures ∙ (λ j. flat_map direct_of (strong_taps c.args.build.now (c.beside.ensures j) (c.opposite.ensures j)))) c.in_ok-push_source.ensures

pub returns : goal.returns
returns c =
    joined_all (λ (side : Side). flat_map direct_of (strong_taps c.args.build.now (beside side c.args.pos) (opposite side))) sides c.loop-side.side-index c.args.sources.now.items c.loop-side.sources.items c.loop-side-test.false c.loop-side.invariant
    ∙ ap (λ (places : List Pos). c.args.sources.now.items ++ places) (brought_joined direct_of (λ (side : Side). strong_taps c.args.build.now (beside side c.args.pos) (opposite side)) sides)
