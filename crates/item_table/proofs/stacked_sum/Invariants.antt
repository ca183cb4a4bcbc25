use Rattle.std.proofs.Common.{◌≡◌, ◌≤◌, ◌*◌, take, sum_by}
use Rattle.item_table.specs.Strength.{stacked}
use Rattle.item_table.proofs.stacked_sum.Given as goal

abbrev pub invariant-loop-item : goal.invariant-loop-item
invariant-loop-item l = (l.sum ≡ sum_by stacked (take l.item-index l.items)) × (l.sum ≤ 274877906944 * l.item-index)
