use Rattle.block_table.proofs.TableSteps.{kind-in_row}
use Rattle.block_table.proofs.names.kind_in.Goals as goal

pub returns : goal.returns
returns c = kind-in_row c.args.rows.now c.args.place c.in_ok-get.field-0.now c.in_ok-get.ensures.lookup.3.0 c.in_ok-get.ensures.lookup.1
