-- The blocks of a unit are blocks of the table.
use Rattle.std.proofs.Common.{◌≡◌, ℕ, ◌*◌, true, List, [], ◌∷◌, refl, inl, inr}
use Rattle.std.specs.Prelude.{All, IsTrue}
use Rattle.std.specs.List.{list_all, range_with_len}
use Rattle.std.proofs.lemmas.Bool.{and_parts, cases_Bool}
use Rattle.std.proofs.lemmas.List.Elements.{All-map}
use Rattle.block_table.specs.declared.Block.{Block}
use Rattle.block_table.specs.Table.{table, kind_at}
use Rattle.block_table.specs.WrittenText.{is_listed}
use Rattle.generator.specs.UnitCells.{UnitCell, unit_cells, stands_at, block_among, unit_block}
use Rattle.generator.specs.Made.{in_unit, units_of}

among_listed : (cells : List UnitCell) (x y z : ℕ) → list_all (λ (cell : UnitCell). is_listed cell.3) cells ≡ true → is_listed (block_among cells x y z) ≡ true
among_listed [] x y z h = refl
among_listed (cell ∷ cells) x y z h =
    let parts = and_parts (is_listed cell.3) (list_all (λ (c : UnitCell). is_listed c.3) cells) h in
    elim (cases_Bool (stands_at x y z cell)) [
      | inl e ↦ rw e parts.0
      | inr e ↦ rw e (among_listed cells x y z parts.1)
    ]

cells_listed : list_all (λ (cell : UnitCell). is_listed cell.3) unit_cells ≡ true
unfolding unit_cells kind_at table
cells_listed = refl

pub unit_listed : (x y z : ℕ) → is_listed (unit_block x y z) ≡ true
unfolding unit_block
unit_listed x y z = among_listed unit_cells x y z cells_listed

pub blocks_listed : (n : ℕ) → All (λ block. IsTrue (is_listed block)) (units_of unit_block n)
blocks_listed n = All-map (λ (block : Block). IsTrue (is_listed block)) (in_unit unit_block n) (range_with_len 0 (120 * n)) (λ k d lt. unit_listed _ _ _)
