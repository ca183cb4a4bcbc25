use Rattle.std.proofs.Common.{◌≡◌, map, take, drop}
use Rattle.serde_json.specs.View.{view}
use Rattle.graph_file.specs.GraphFile.{nodes_cause, nowhere}
use Rattle.graph_file.specs.Reading.{node_of}
use Rattle.graph_file.specs.Steps.{has_place}
use Rattle.graph_file.proofs.reading.read_nodes.Given as goal

abbrev pub invariant-loop-index : goal.invariant-loop-index
invariant-loop-index l = (l.graph.nodes ≡ map node_of (take l.index (map view l.nodes)))
    × (nodes_cause l.index (has_place l.places.keys) (drop l.index (map view l.nodes)) ≡ nodes_cause 0 nowhere (map view l.nodes))
