use Rattle.std.proofs.Common.{◌∙◌}
use Rattle.block_table.proofs.TableSteps.{place-of_rows}
use Rattle.block_table.proofs.names.place_in_rows.Goals as goal

pub returns-clause-place : goal.returns-clause-place
returns-clause-place c = c.place_of.ensures.place ∙ place-of_rows c.args.name.now c.args.rows.now
