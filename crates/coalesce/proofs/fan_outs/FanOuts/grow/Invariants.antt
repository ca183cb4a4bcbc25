use Rattle.std.proofs.Common.{◌≡◌, ℕ, ◌+◌, ◌-◌, length}
use Rattle.coalesce.specs.FanOuts.{targets_of}
use Rattle.coalesce.proofs.fan_outs.FanOuts.grow.Given as goal

abbrev pub invariant-loop-self : goal.invariant-loop-self
invariant-loop-self l = (from : ℕ) → targets_of l.self.lists.items from ≡ targets_of l.initial.self.lists.items from

abbrev pub decreases-loop-self : goal.decreases-loop-self
decreases-loop-self l = l.number + 1 - length l.self.lists.items
