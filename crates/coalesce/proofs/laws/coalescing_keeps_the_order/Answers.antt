use Rattle.coalesce.specs.CoalesceLaws.{coalesce_in_order}
use Rattle.coalesce.proofs.laws.coalescing_keeps_the_order.Goals as goal

pub returns : goal.returns
returns c = coalesce_in_order
