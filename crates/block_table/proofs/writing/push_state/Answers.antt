use Rattle.block_table.proofs.BlockSteps.{state_text-back}
use Rattle.block_table.proofs.writing.push_state.Goals as goal

pub returns-clause-reads : goal.returns-clause-reads
returns-clause-reads c = state_text-back c.args.block c.requires
