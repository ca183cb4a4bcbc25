use Rattle.input_search.proofs.RawLaws.{node-reads}
use Rattle.input_search.proofs.laws.nodes_read_as_places.Goals as goal

pub returns : goal.returns
returns c = node-reads
