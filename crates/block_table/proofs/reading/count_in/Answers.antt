use Rattle.std.proofs.Common.{◌<◌, length, sym, ◌∙◌, arith}
use Rattle.block_table.specs.StateText.{properties_in}
use Rattle.block_table.proofs.ChosenSteps.{chosen-below_texts}
use Rattle.block_table.proofs.reading.count_in.Goals as goal

pub overflow_cast-result : goal.overflow_cast-result
overflow_cast-result c =
    let below : c.in_ok-place.place < length c.args.listed.now = chosen-below_texts c.args.key.now c.args.listed.now (properties_in c.args.properties.now) c.in_ok-place.place c.requires.some (sym c.chosen.ensures ∙ c.in_ok-place.was) in
    omega arith

pub overflow_add-result : goal.overflow_add-result
overflow_add-result c =
    let below : c.in_ok-place.place < length c.args.listed.now = chosen-below_texts c.args.key.now c.args.listed.now (properties_in c.args.properties.now) c.in_ok-place.place c.requires.some (sym c.chosen.ensures ∙ c.in_ok-place.was) in
    omega arith
