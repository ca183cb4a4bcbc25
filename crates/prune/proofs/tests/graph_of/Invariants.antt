use Rattle.std.proofs.Common.{◌≡◌, ◌≤◌, map, take, drop, length}
use Rattle.prune.specs.Sample.{sample, sample_node, linked}
use Rattle.prune.proofs.tests.graph_of.Given as goal

abbrev pub invariant-loop-pos : goal.invariant-loop-pos
invariant-loop-pos l = record { made : l.graph.nodes ≡ map sample_node (take l.pos-index l.nodes); size : length l.graph.nodes ≤ l.pos-index }

abbrev pub invariant-loop-from : goal.invariant-loop-from
invariant-loop-from l = linked l.graph.nodes (drop l.from-index l.links) ≡ sample l.nodes l.links
