use Rattle.block_table.specs.StateText.{properties_in}
use Rattle.block_table.proofs.ListedSteps.{block_named-listed}
use Rattle.block_table.proofs.reading.parse_state.Goals as goal

pub returns-clause-listed : goal.returns-clause-listed
returns-clause-listed c = block_named-listed c.block_named.result c.in_ok-state.state.name.now (properties_in c.in_ok-state.state.properties.now) c.block_named.ensures
