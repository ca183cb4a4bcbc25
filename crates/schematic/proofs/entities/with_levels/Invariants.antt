use Rattle.std.proofs.Common.{◌≡◌, ◌≤◌, drop, length}
use Rattle.schematic.specs.Entities.{with_all}
use Rattle.schematic.specs.Code.{plain_entities}
use Rattle.schematic.proofs.entities.with_levels.Given as goal

abbrev pub decreases-loop-index : goal.decreases-loop-index
decreases-loop-index l = l.index

abbrev pub invariant-loop-index : goal.invariant-loop-index
invariant-loop-index l = record {
  within : l.index ≤ length l.entities;
  made : l.build ≡ with_all l.fn.build (plain_entities (drop l.index l.entities));
}
