use Rattle.std.proofs.Common.{◌≡◌, ◌+◌, length, map, is_some}
use Rattle.std.specs.Option.{option_map_or, option_copied}
use Rattle.block_table.specs.StateText.{all_some, property_of, parts_after, properties_of}
use Rattle.block_table.proofs.properties.is_formed.Given as goal

abbrev pub invariant-loop-rest : goal.invariant-loop-rest
invariant-loop-rest l = is_some (all_some (map property_of (parts_after 44 (option_copied l.rest)))) ≡ is_some (properties_of l.fn.text)

abbrev pub decreases-loop-rest : goal.decreases-loop-rest
decreases-loop-rest l = option_map_or (λ text. length text + 1) (option_copied l.rest) 0
