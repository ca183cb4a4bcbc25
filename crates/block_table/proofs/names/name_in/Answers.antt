use Rattle.block_table.proofs.TableSteps.{name-in_row}
use Rattle.block_table.proofs.names.name_in.Goals as goal

pub returns-in-Some : goal.returns-in-Some
returns-in-Some c = name-in_row c.args.rows.now c.args.place c.in-Some.row.now c.in-Some.ensures.lookup.3.0 c.in-Some.ensures.lookup.1
