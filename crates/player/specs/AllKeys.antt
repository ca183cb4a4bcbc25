-- The keys of the circuits that are played.
use Rattle.std.specs.Prelude.{List}
use Rattle.circuit.specs.declared.Pos.{Pos}
use Rattle.build.specs.Plan.{Plan}
use Rattle.graph.specs.Graph.{Nodes}
use Rattle.graph.specs.GraphCircuit.{graph_circuit}
use Rattle.graph.proofs.ListedSteps.{graph_is_listed}
use Rattle.power_rules.specs.World.{world_circuit}
use Rattle.power_rules.proofs.Listed.{world_listed}
use Rattle.player.specs.AnyRun.{HasKeys}

pub world_keys : (build : Plan) (marks : List Pos) → HasKeys (world_circuit build marks)
world_keys build marks = record { keys = _; listed = world_listed build marks }

pub graph_keys : (g : Nodes) → HasKeys (graph_circuit g)
graph_keys g = record { keys = _; listed = graph_is_listed g }
