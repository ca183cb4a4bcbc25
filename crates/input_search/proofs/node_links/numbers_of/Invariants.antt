use Rattle.input_search.specs.Numbers.{AreNodeCells}
use Rattle.input_search.proofs.node_links.numbers_of.Given as goal

abbrev pub invariant-loop-number : goal.invariant-loop-number
invariant-loop-number l = AreNodeCells l.build l.graph.nodes l.number l.numbers
