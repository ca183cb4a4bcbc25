use Rattle.std.proofs.Common.{◌≡◌, ℕ, [], length}
use Rattle.constant_fold.specs.Tended.{waiting_for}
use Rattle.constant_fold.proofs.waits.empty_lists.Given as goal

abbrev pub invariant-loop : goal.invariant-loop
invariant-loop l = record {
  empty : (source : ℕ) → waiting_for l.lists.items source ≡ [];
  count : length l.lists.items ≡ l.counter;
}
