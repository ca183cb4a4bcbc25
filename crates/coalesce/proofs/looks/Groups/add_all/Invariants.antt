use Rattle.std.proofs.Common.{◌<◌, ℕ, get_or}
use Rattle.coalesce.specs.Looks.{IsGrouped, KeepsMembers}
use Rattle.coalesce.proofs.looks.Groups.add_all.Given as goal

abbrev pub invariant-loop-key : goal.invariant-loop-key
invariant-loop-key l = record {
  keeps : KeepsMembers l.initial.self.lists l.self.lists;
  all : (index : ℕ) → index < l.key-index → IsGrouped l.graph.nodes l.self.lists (get_or l.keys index 0);
}
