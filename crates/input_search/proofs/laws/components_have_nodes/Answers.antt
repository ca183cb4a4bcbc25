use Rattle.input_search.proofs.RawWorld.{component_has_node}
use Rattle.input_search.proofs.laws.components_have_nodes.Goals as goal

pub returns : goal.returns
returns c = component_has_node
