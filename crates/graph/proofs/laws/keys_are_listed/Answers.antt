use Rattle.graph.proofs.ListedSteps.{test_of_keys, graph_is_listed}
use Rattle.graph.proofs.laws.keys_are_listed.Goals as goal

pub returns : goal.returns
returns c = record { listed = graph_is_listed; test = λ g. test_of_keys }
