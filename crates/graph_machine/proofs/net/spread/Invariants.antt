use Rattle.std.proofs.Common.{◌≡◌, ◌+◌, take, length}
use Rattle.graph_machine.specs.Counted.{row}
use Rattle.graph_machine.proofs.CountSteps.{Moved}
use Rattle.graph_machine.proofs.net.spread.Given as goal

abbrev pub invariant-loop-index : goal.invariant-loop-index
invariant-loop-index g l = record {
  moved : Moved (take l.index (row l.links l.from)) l.old l.new l.initial.tables l.tables;
  whole : length l.tables ≡ length l.initial.tables;
  read : l.steps ≡ l.fn.steps + 1 + l.index;
}
