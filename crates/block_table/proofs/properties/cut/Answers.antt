use Rattle.std.proofs.Common.{◌+◌}
use Rattle.std.proofs.lemmas.List.{take_rest}
use Rattle.block_table.proofs.PartSteps.{parts-cut, parts-uncut}
use Rattle.block_table.proofs.properties.cut.Goals as goal

pub returns-in-Some-clause-parts : goal.returns-in-Some-clause-parts
returns-in-Some-clause-parts c = rw (take_rest c.args.text.now (c.in-Some.place + 1)) (parts-cut c.args.byte c.args.text.now c.in-Some.place c.in-Some.ensures)

pub returns-in-None-clause-parts : goal.returns-in-None-clause-parts
returns-in-None-clause-parts c = parts-uncut c.args.byte c.args.text.now c.in-None.ensures
