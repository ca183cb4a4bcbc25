use Rattle.std.proofs.Common.{◌≡◌, ◌++◌, ◌+◌, ◌*◌, ◌<◌, ◌≤◌}
use Rattle.schem_write.specs.Code.{plain_list}
use Rattle.schem_write.specs.Stacks.{stacks_of, stack_trees}
use Rattle.schem_write.proofs.stacks.stack_trees.Given as goal

abbrev pub invariant-loop-left : goal.invariant-loop-left
invariant-loop-left l = record {
  trees : plain_list l.trees.items ++ stack_trees l.slot (stacks_of l.left) ≡ stack_trees 0 (stacks_of l.items);
  slots : l.slot ≤ 128;
  room : 0 < l.left → l.slot * 64 + l.left ≤ 8192;
}

abbrev pub decreases-loop-left : goal.decreases-loop-left
decreases-loop-left l = l.left
