use Rattle.std.proofs.Common.{◌∙◌, arith}
use Rattle.std.proofs.lemmas.List.{length-set}
use Rattle.graph_machine.proofs.ScreenSteps.{placed_next}
use Rattle.graph_machine.proofs.screen.put_places.Goals as goal

pub bounds-places-key : goal.bounds-places-key
bounds-places-key c = omega (arith, c.requires.inside c.loop-index.index c.loop-index-test.true, c.loop-index.invariant.whole)

pub loop-index-preserved : goal.loop-index-preserved
loop-index-preserved c =
    let here = c.requires.inside c.loop-index.index c.loop-index-test.true in
    record {
      below = placed_next c.args.keys.now c.loop-index.places c.loop-index.index c.requires.once c.loop-index-test.true (omega (arith, here, c.loop-index.invariant.whole)) c.loop-index.invariant.below;
      whole = length-set c.loop-index.places _ c.loop-index.index ∙ c.loop-index.invariant.whole;
    }

pub returns-clause-placed : goal.returns-clause-placed
returns-clause-placed c = record {
  inside = λ i h. omega (arith, c.requires.inside i h, c.loop-index.invariant.whole);
  each = λ i h. c.loop-index.invariant.below i (omega (arith, h, c.loop-index-test.false));
}
