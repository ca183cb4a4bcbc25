-- Levels that fit their blocks.
use Rattle.std.proofs.Common.{◌≡◌, ℕ, ◌≤◌, true, inl, inr, arith}
use Rattle.std.specs.Prelude.{◌&&◌, ◌==◌, nat_le}
use Rattle.std.proofs.lemmas.Bool.{and_parts, and_from, or_cases, or_right, eqb-true, leb-true, le-leb}
use Rattle.block_table.specs.declared.Block.{Block}
use Rattle.build.specs.Plan.{has_level, level_fits}

pub fits-small : (block : Block) (level : ℕ) → level_fits block level ≡ true → level ≤ 15
fits-small block level h = elim (or_cases (level == 0) (has_level block && nat_le level 15) h) [
  | inl e ↦ omega (arith, eqb-true level 0 e)
  | inr e ↦ leb-true level 15 (and_parts (has_level block) (nat_le level 15) e).1
]

pub fits-from : (block : Block) (level : ℕ) → has_level block ≡ true → level ≤ 15 → level_fits block level ≡ true
fits-from block level h k = or_right (level == 0) (has_level block && nat_le level 15) (and_from (has_level block) (nat_le level 15) h (le-leb level 15 k))
