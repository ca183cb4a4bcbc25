-- Made builds are builds.
use Rattle.std.proofs.Common.{◌≡◌, ℕ, ◌+◌, ◌*◌, ◌<◌, ◌≤◌, true, refl, ◌∙◌, ap, inl, inr, arith}
use Rattle.std.specs.Prelude.{◌&&◌, ◌==◌}
use Rattle.std.proofs.lemmas.Bool.{and_parts, cases_Bool, eqb-true}
use Rattle.std.proofs.lemmas.List.FromFn.{get_or-map-range_with_len}
use Rattle.block_table.specs.declared.Block.{Block}
use Rattle.block_table.specs.declared.Block.TheVariants.{Air, Comparator}
use Rattle.block_table.specs.WrittenText.{is_listed}
use Rattle.circuit.specs.declared.Pos.{Pos}
use Rattle.build.specs.Plan.{IsWhole, in_box, cell_of, entry, output_of, output_at, level_fits}
use Rattle.build.specs.Places.{inside, cell_below, entry-inside, entry-outside}
use Rattle.generator.specs.UnitCells.{unit_cells, unit_block, unit_level}
use Rattle.generator.specs.Made.{in_unit, units_of, place_at, made_build}
use Rattle.generator.proofs.Units.{length-units_of, entry-unit, made_box, block_at-made}
use Rattle.generator.proofs.Listed.{unit_listed}

-- the level of each place of a unit fits its block
unit_fits : (x y z : ℕ) → level_fits (unit_block x y z) (unit_level x y z) ≡ true
unfolding unit_block unit_cells unit_level
unit_fits x y z = elim (cases_Bool ((x == 1) && ((y == 0) && (z == 9)))) [
  | inl e ↦
      let a = and_parts (x == 1) ((y == 0) && (z == 9)) e in
      let b = and_parts (y == 0) (z == 9) a.1 in
      let by_x : x ≡ 1 = eqb-true x 1 a.0 in
      let by_y : y ≡ 0 = eqb-true y 0 b.0 in
      let by_z : z ≡ 9 = eqb-true z 9 b.1 in
      there x y z by_x by_y by_z
  | inr e ↦ rw e refl
]
  where
    there : (x y z : ℕ) → x ≡ 1 → y ≡ 0 → z ≡ 9 → level_fits (unit_block x y z) (unit_level x y z) ≡ true
    there x y z e f g =
        ap (λ (k : ℕ). level_fits (unit_block k y z) (unit_level k y z)) e
        ∙ ap (λ (k : ℕ). level_fits (unit_block 1 k z) (unit_level 1 k z)) f
        ∙ ap (λ (k : ℕ). level_fits (unit_block 1 0 k) (unit_level 1 0 k)) g

-- only the comparator has a level
output_of-unit : (x y z : ℕ) → output_of (unit_block x y z) (unit_level x y z) ≡ unit_level x y z
unfolding unit_block unit_cells unit_level
output_of-unit x y z = elim (cases_Bool ((x == 1) && ((y == 0) && (z == 9)))) [
  | inl e ↦
      let a = and_parts (x == 1) ((y == 0) && (z == 9)) e in
      let b = and_parts (y == 0) (z == 9) a.1 in
      there x y z (eqb-true x 1 a.0) (eqb-true y 0 b.0) (eqb-true z 9 b.1)
  | inr e ↦ rw e (nothing (unit_block x y z))
]
  where
    there : (x y z : ℕ) → x ≡ 1 → y ≡ 0 → z ≡ 9 → output_of (unit_block x y z) (unit_level x y z) ≡ unit_level x y z
    there x y z e f g = rw (e, f, g) refl

    nothing : (block : Block) → output_of block 0 ≡ 0
    nothing (Comparator facing subtract) = refl
    nothing _ = refl

pub output_at-made : (n i x y z X : ℕ) → X ≡ 4 * i + x → i < n → x < 4 → y < 3 → z < 10 → output_at (made_build n) (place_at X y z) ≡ unit_level x y z
unfolding made_build
output_at-made n i x y z X e hi hx hy hz =
    ap (λ (block : Block). output_of block (entry (made_build n) (units_of unit_level n) 0 (place_at X y z))) (block_at-made n i x y z X e hi hx hy hz)
    ∙ ap (output_of (unit_block x y z)) (entry-unit unit_level n i x y z X 0 (made_build n) (made_box n) e hi hx hy hz)
    ∙ output_of-unit x y z

-- what a cell of the box holds
held : {A : Type 0} (at : ℕ → ℕ → ℕ → A) (n : ℕ) (d : A) (p : Pos) → in_box (made_build n) p ≡ true → entry (made_build n) (units_of at n) d p ≡ in_unit at n (cell_of (made_build n) p)
unfolding made_build
held at n d p h =
    let b = made_build n in
    entry-inside b (units_of at n) d p h
    ∙ get_or-map-range_with_len (in_unit at n) 0 (120 * n) (cell_of b p) (cell_of b p) d (omega (arith, cell_below b p (inside b p h))) (omega arith)

pub made_whole : (n : ℕ) → n ≤ 4000 → IsWhole (made_build n)
unfolding made_build
made_whole n few = record {
  narrow = omega arith;
  low = omega arith;
  shallow = omega arith;
  small = omega arith;
  blocks = length-units_of unit_block n ∙ omega arith;
  levels = length-units_of unit_level n ∙ omega arith;
  listed = λ p. elim (cases_Bool (in_box (made_build n) p)) [
    | inl h ↦ ap is_listed (held unit_block n Air p h) ∙ unit_listed _ _ _
    | inr h ↦ ap is_listed (entry-outside (made_build n) (units_of unit_block n) Air p h)
  ];
  fitting = λ p. elim (cases_Bool (in_box (made_build n) p)) [
    | inl h ↦ rw (held unit_block n Air p h, held unit_level n 0 p h) (unit_fits _ _ _)
    | inr h ↦ rw (entry-outside (made_build n) (units_of unit_block n) Air p h, entry-outside (made_build n) (units_of unit_level n) 0 p h) refl
  ];
  waiting = refl;
  once = refl;
}
