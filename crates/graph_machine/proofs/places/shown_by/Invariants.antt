use Rattle.std.proofs.Common.{◌≡◌, map, drop}
use Rattle.graph.specs.GraphCircuit.{outputs_from}
use Rattle.graph_machine.specs.Places.{output_in}
use Rattle.graph_machine.proofs.places.shown_by.Given as goal

abbrev pub invariant-loop-key : goal.invariant-loop-key
invariant-loop-key l = map output_in l.keys.entries ≡ outputs_from l.key (drop l.key l.graph.nodes)
