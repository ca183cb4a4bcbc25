-- How many slots a container may have, and how many items that takes.
use Rattle.std.proofs.Common.{◌≡◌, ◌≤◌, ◌-◌, ◌*◌, ℕ, zero, suc, List, [], ◌∷◌, Some, Bool, true, refl, arith}
use Rattle.std.specs.Prelude.{nat_le}
use Rattle.std.specs.List.{list_all}
use Rattle.std.proofs.Math.Nat.{mul-le-mul}
use Rattle.std.proofs.lemmas.Bool.{and_parts}
use Rattle.std.proofs.lemmas.Bool.Decides.{nat_tests}
use Rattle.block_table.specs.declared.Block.TheVariants.{Container}
use Rattle.block_table.specs.Table.{Row, kind_at, kind_in, table}
use Rattle.block_table.specs.Facts.{slots, slots_of}
use Rattle.schem_write.specs.Stacks.{items_for}

abbrev row_has_few : Row → Bool
row_has_few row = nat_le (slots_of (Some row.kind)) 27

table_has_few : list_all row_has_few table ≡ true
unfolding table
table_has_few = refl

few_in : (rows : List Row) (n : ℕ) → list_all row_has_few rows ≡ true → slots_of (kind_in n rows) ≤ 27
few_in [] n h = omega arith
few_in (row ∷ rows) zero h = let k : nat_le (slots_of (Some row.kind)) 27 ≡ true = (and_parts (row_has_few row) (list_all row_has_few rows) h).0 in grind (arith, nat_tests, k)
few_in (row ∷ rows) (suc n) h = few_in rows n (and_parts (row_has_few row) (list_all row_has_few rows) h).1

pub few_slots : (name : ℕ) → slots (Container name) ≤ 27
unfolding kind_at
few_slots name = few_in table name table_has_few

pub few_items : (s level : ℕ) → s ≤ 27 → level ≤ 15 → items_for s level ≤ 1728
few_items s level h k =
    let low : (level - 1) * 64 ≤ 14 * 64 = omega arith in
    let product : (level - 1) * 64 * s ≤ 14 * 64 * 27 = mul-le-mul (low) h in
    omega arith
