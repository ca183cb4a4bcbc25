use Rattle.std.proofs.Common.{◌≡◌, ◌++◌, map, drop}
use Rattle.serde_json.specs.View.{view}
use Rattle.graph_file.specs.Json.{entries_data}
use Rattle.graph_file.proofs.writing.node_values.Given as goal

abbrev pub invariant-loop-key : goal.invariant-loop-key
invariant-loop-key l = map view l.nodes.items ++ entries_data (drop l.key l.graph.nodes) ≡ entries_data l.graph.nodes
