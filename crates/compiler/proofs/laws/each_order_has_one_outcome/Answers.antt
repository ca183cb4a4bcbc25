use Rattle.power_rules.specs.World.{world_circuit}
use Rattle.power_rules.proofs.Joining.{test_of_places}
use Rattle.power_rules.proofs.Listed.{world_listed}
use Rattle.build.specs.Plan.{places}
use Rattle.node_arena.specs.Items.{keys_of}
use Rattle.graph.specs.GraphCircuit.{graph_circuit}
use Rattle.graph.proofs.ListedSteps.{test_of_keys, graph_is_listed}
use Rattle.compiler.proofs.OneRun.{world_apart, graph_apart}
use Rattle.compiler.proofs.Outcomes.{has_one_outcome}
use Rattle.compiler.proofs.laws.each_order_has_one_outcome.Goals as goal

pub returns : goal.returns
returns c = record {
  world = λ b marks. has_one_outcome (world_circuit b marks) test_of_places (world_apart b marks) (places b) (world_listed b marks);
  graph = λ g sound. has_one_outcome (graph_circuit g) test_of_keys (graph_apart g sound) (keys_of g) (graph_is_listed g);
}
