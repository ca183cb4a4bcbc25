use Rattle.std.proofs.Common.{◌≡◌, ◌<◌, ℕ, [], length}
use Rattle.wire_net.specs.Listed.{items_of, list_at, AreRoomy}
use Rattle.wire_net.proofs.cell_lists.CellLists.clear.Given as goal

abbrev pub invariant-loop-number : goal.invariant-loop-number
invariant-loop-number l = record {
  count : length l.self-inside.lists.items ≡ length l.initial.self-inside.lists.items;
  room : l.self-inside.room ≡ l.initial.self-inside.room;
  empty : (i : ℕ) → i < l.number → list_at (items_of l.self-inside.lists.items) i ≡ [];
  roomy : AreRoomy l.self-inside.room l.self-inside.lists.items;
}
