use Rattle.std.proofs.Common.{arith}
use Rattle.block_table.specs.declared.Side.TheVariants.{Down}
use Rattle.wire_shape.specs.Shape.{around}
use Rattle.wire_shape.specs.Feeders.{fed_from_below, fed_from_beside, fed_from_above}
use Rattle.wire_shape.proofs.FoundSides.{found_more}
use Rattle.wire_shape.proofs.feeding.feeders_of.Goals as goal

pub below-preserved : goal.below-preserved
below-preserved c = (
  found_more (fed_from_below c.args.build.now c.args.pos) around c.below.side-index Down c.new-feeders.result c.below.feeders c.add.new.self c.fed_from_below.result c.below-test.true
      c.below.invariant.0 c.fed_from_below.ensures c.add.ensures.added,
  omega (arith, c.add.ensures.grows, c.below.invariant.1),
)

pub beside-preserved : goal.beside-preserved
beside-preserved c = (
  found_more (fed_from_beside c.args.build.now c.args.pos) around c.beside.side-index Down c.below.feeders c.beside.feeders c.add-in-beside.new.self c.fed_from_beside.result c.beside-test.true
      c.beside.invariant.0 c.fed_from_beside.ensures c.add-in-beside.ensures.added,
  omega (arith, c.add-in-beside.ensures.grows, c.beside.invariant.1),
)

pub above-preserved : goal.above-preserved
above-preserved c = (
  found_more (fed_from_above c.args.build.now c.args.pos) around c.above.side-index Down c.beside.feeders c.above.feeders c.add-in-above.new.self c.fed_from_above.result c.above-test.true
      c.above.invariant.0 c.fed_from_above.ensures c.add-in-above.ensures.added,
  omega (arith, c.add-in-above.ensures.grows, c.above.invariant.1),
)
