use Rattle.std.proofs.Common.{◌≡◌, [], replicate}
use Rattle.wire_net.specs.Listed.{items_of, AreRoomy}
use Rattle.wire_net.proofs.cell_lists.CellLists.new.Given as goal

abbrev pub invariant-loop-made : goal.invariant-loop-made
invariant-loop-made l = record {
  items : items_of l.lists.items ≡ replicate l._made [];
  roomy : AreRoomy l.room l.lists.items;
}
