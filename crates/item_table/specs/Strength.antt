-- The strength that items give.
use Rattle.std.specs.Prelude.{◌≡◌, ℕ, ◌+◌, ◌*◌, ◌/◌, ◌==◌, ◌⊎◌, min, if◌then◌else◌, List, sum_by}
use Rattle.item_table.specs.declared.ItemCount.{ItemCount}

-- 64, 16 or 1 items make a whole stack
abbrev pub IsSized : ItemCount → Type 0
IsSized item = (item.size ≡ 64) ⊎ (item.size ≡ 16) ⊎ (item.size ≡ 1)

-- the number of these items as if they stacked to 64
abbrev pub stacked : ItemCount → ℕ
stacked item = item.count * 64 / item.size

abbrev pub stacked_sum : List ItemCount → ℕ
stacked_sum items = sum_by stacked items

-- 14 parts of what the slots hold, and 1 where there is anything
abbrev pub strength_by : ℕ → ℕ → ℕ
strength_by slots s = if s == 0 then 0 else min 15 (1 + 14 * s / (64 * slots))

unfoldable pub strength_of : ℕ → List ItemCount → ℕ
strength_of slots items = strength_by slots (stacked_sum items)
