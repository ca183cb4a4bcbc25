use Rattle.std.proofs.Common.{drop}
use Rattle.node_finder.specs.TicksByCell.{AreByCell}
use Rattle.node_finder.proofs.ticks_by_cell.Given as goal

abbrev pub invariant-loop-index : goal.invariant-loop-index
invariant-loop-index l = AreByCell l.build (drop l.index l.pending) l.ticks
