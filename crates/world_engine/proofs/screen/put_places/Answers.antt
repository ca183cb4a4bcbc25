use Rattle.std.proofs.Common.{refl, ◌∙◌, arith}
use Rattle.world_engine.proofs.OnceShown.{outlets_few, shown_there, placed_next, placed_all}
use Rattle.world_engine.proofs.screen.put_places.Goals as goal

pub loop-index-init : goal.loop-index-init
loop-index-init c = record { below = record { each = λ i n low has. absurd (omega arith) }; whole = refl }

pub put_place-requires-clause-inside : goal.put_place-requires-clause-inside
put_place-requires-clause-inside c = λ n has.
    let there = shown_there c.args.things.now c.count.ensures.numbered c.args.outlets.now c.requires.outlets c.loop-index.index n has in
    omega (arith, there.0, c.requires.whole, c.loop-index.invariant.whole)

pub put_place-requires-clause-few : goal.put_place-requires-clause-few
put_place-requires-clause-few c = omega (arith, outlets_few c.args.things.now c.count.ensures.numbered c.args.outlets.now c.requires.outlets, c.loop-index-test.true)

pub loop-index-preserved : goal.loop-index-preserved
loop-index-preserved c = record {
  below = placed_next c.args.things.now c.count.ensures.numbered c.args.outlets.now c.requires.outlets c.loop-index.index c.loop-index.places c.put_place.new.places c.loop-index.invariant.below c.put_place.ensures;
  whole = c.put_place.ensures.long ∙ c.loop-index.invariant.whole;
}

pub returns-clause-placed : goal.returns-clause-placed
returns-clause-placed c =
    placed_all c.args.things.now c.count.ensures.numbered c.args.outlets.now c.requires.outlets c.loop-index.index c.loop-index.places c.loop-index-test.false
    (c.loop-index.invariant.whole ∙ c.requires.whole) c.loop-index.invariant.below
