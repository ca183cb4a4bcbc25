use Rattle.std.proofs.Common.{◌≤◌, ◌++◌, drop}
use Rattle.graph_file.specs.Json.{numbers_from}
use Rattle.graph_file.proofs.SendSteps.{SameNumbers}
use Rattle.graph_file.proofs.writing.numbers_of.Given as goal

abbrev pub invariant-loop-key : goal.invariant-loop-key
invariant-loop-key l = (l.next ≤ l.key) × SameNumbers (l.numbers.items ++ numbers_from l.next (drop l.key l.graph.nodes)) (numbers_from 0 l.graph.nodes)
