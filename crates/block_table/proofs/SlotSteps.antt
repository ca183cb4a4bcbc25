-- Each container has slots.
use Rattle.std.proofs.Common.{◌≡◌, ◌≤◌, ℕ, zero, suc, List, [], ◌∷◌, Option, Some, Bool, true, false, refl, arith}
use Rattle.std.specs.Prelude.{nat_lt, ◌&&◌}
use Rattle.std.specs.List.{list_all}
use Rattle.std.proofs.lemmas.Bool.Decides.{nat_tests}
use Rattle.block_table.specs.declared.Block.TheVariants.{Container}
use Rattle.block_table.specs.declared.names.Kind.{Kind}
use Rattle.block_table.specs.declared.names.Kind.TheVariants.{Container as ContainerName}
use Rattle.block_table.specs.Table.{Row, kind_at, kind_in, table}
use Rattle.block_table.specs.Facts.{slots, slots_of}
use Rattle.block_table.specs.WrittenText.{is_listed, is_container}

abbrev has_slots : Option Kind → Bool
has_slots (Some (ContainerName number solid)) = nat_lt 0 number
has_slots _ = true

abbrev row_has_slots : Row → Bool
row_has_slots row = has_slots (Some row.kind)

table_has_slots : list_all row_has_slots table ≡ true
unfolding table
table_has_slots = refl

slots_in : (rows : List Row) (n : ℕ) → list_all row_has_slots rows ≡ true → is_container (kind_in n rows) ≡ true → 1 ≤ slots_of (kind_in n rows)
slots_in [] n h k = absurd (cc)
slots_in (row ∷ rows) zero h k = one row.kind (front (row_has_slots row) (list_all row_has_slots rows) h) k
  where
    front : (a b : Bool) → (a && b) ≡ true → a ≡ true
    front true b e = refl
    front false b e = absurd (cc)

    one : (kind : Kind) → has_slots (Some kind) ≡ true → is_container (Some kind) ≡ true → 1 ≤ slots_of (Some kind)
    one (ContainerName number solid) e f = grind (arith, nat_tests)
    one _ e f = absurd (cc)
slots_in (row ∷ rows) (suc n) h k = slots_in rows n (behind (row_has_slots row) (list_all row_has_slots rows) h) k
  where
    behind : (a b : Bool) → (a && b) ≡ true → b ≡ true
    behind true b e = e
    behind false b e = absurd (cc)

pub listed_slots : (name : ℕ) → is_listed (Container name) ≡ true → 1 ≤ slots (Container name)
unfolding kind_at
listed_slots name h = slots_in table name table_has_slots h
