use Rattle.std.proofs.Common.{◌≡◌, ◌+◌, length, map}
use Rattle.std.specs.Option.{option_map_or, option_copied}
use Rattle.block_table.specs.StateText.{parts_after, pieces}
use Rattle.block_table.proofs.PropertySteps.{chosen_from}
use Rattle.block_table.proofs.properties.chosen.Given as goal

abbrev pub invariant-loop-rest : goal.invariant-loop-rest
invariant-loop-rest l = chosen_from l.chosen l.key (map (λ v. v.now) l.listed) (parts_after 44 (option_copied l.rest)) ≡ chosen_from 0 l.key (map (λ v. v.now) l.listed) (pieces l.properties)

abbrev pub decreases-loop-rest : goal.decreases-loop-rest
decreases-loop-rest l = option_map_or (λ text. length text + 1) (option_copied l.rest) 0
