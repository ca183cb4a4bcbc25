use Rattle.std.proofs.Common.{◌≡◌, true, false, sym, ap, ◌∙◌}
use Rattle.block_table.specs.declared.Block.{Block}
use Rattle.wiring.specs.Things.{is_thing, has_thing}
use Rattle.wiring.proofs.Numbering.{number_yes, number_no, listed-below}
use Rattle.wiring.proofs.things.number_cell.Goals as goal

pub push-requires-then-is_thing-clause-rising : goal.push-requires-then-is_thing-clause-rising
push-requires-then-is_thing-clause-rising c = listed-below c.args.build.now c.args.cell c.args.spots.now.items c.args.numbers.now c.requires.below

pub returns-in_ok-push-2 : goal.returns-in_ok-push-2
returns-in_ok-push-2 c =
    let here : has_thing c.args.build.now c.args.cell ≡ true = ap (λ (block : Block). is_thing block) (sym c.block_in.ensures.value) ∙ sym c.is_thing.ensures ∙ c.if-is_thing.true in
    rw (c.in_ok-push.ensures.items, c.in_ok-push-2.ensures.ok)
    (number_yes c.args.build.now c.args.cell c.args.spots.now.items c.args.numbers.now c.place.result c.requires.below here c.place.ensures)

pub returns-else-is_thing : goal.returns-else-is_thing
returns-else-is_thing c =
    let none : has_thing c.args.build.now c.args.cell ≡ false = ap (λ (block : Block). is_thing block) (sym c.block_in.ensures.value) ∙ sym c.is_thing.ensures ∙ c.if-is_thing.false in
    number_no c.args.build.now c.args.cell c.args.spots.now.items c.args.numbers.now c.requires.below none
