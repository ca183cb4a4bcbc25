use Rattle.std.proofs.Common.{◌≢◌, ◌<◌, length, map, sym, ◌∙◌, arith, below_more}
use Rattle.std.proofs.lemmas.List.{get_or-set_same, get_or-set_other, get_or-map, length-map, ext_get_or}
use Rattle.replay_engine.specs.Running.{shown_of}
use Rattle.replay_engine.proofs.events.view_into.Goals as goal

pub loop-index-preserved : goal.loop-index-preserved
loop-index-preserved c =
    let inside : c.loop-index.index < length c.loop-index.into = omega arith in
    below_more _ _
    (λ k h. let apart : k ≢ c.loop-index.index = omega arith in get_or-set_other c.loop-index.into c.loop-index.index k c.shown_at.result 0 apart ∙ c.loop-index.invariant k h)
    (get_or-set_same c.loop-index.into c.loop-index.index c.shown_at.result 0 inside ∙ c.shown_at.ensures
    ∙ sym (get_or-map (shown_of c.args.things.now c.args.cells.now.cells) c.args.places.now c.loop-index.index _ 0 c.loop-index-test.true))

pub returns : goal.returns
returns c =
    ext_get_or 0 c.loop-index.into (map (shown_of c.args.things.now c.args.cells.now.cells) c.args.places.now)
    (c.loop-index.auto.into ∙ c.requires.room ∙ sym (length-map c.args.places.now (shown_of c.args.things.now c.args.cells.now.cells)))
    (λ i below. c.loop-index.invariant i (omega (arith, c.loop-index.auto.into, c.requires.room)))
