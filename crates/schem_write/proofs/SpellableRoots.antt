-- The two roots that are written can be spelled.
use Rattle.std.proofs.Common.{◌≡◌, ℕ, ◌*◌, ◌^◌, ◌<◌, ◌≤◌, ℤ, pos, List, [], ◌∷◌, ◌++◌, map, length, refl, arith, inl, inr, lit<}
use Rattle.std.specs.Prelude.{FitsSigned, codes}
use Rattle.std.specs.Int.{w16, w32}
use Rattle.std.specs.List.{AllByRecursion, flat_map}
use Rattle.std.specs.Str.{bytes_eq}
use Rattle.std.proofs.Math.Facts.{sfits_to_z}
use Rattle.std.proofs.lemmas.Bool.{cases_Bool}
use Rattle.std.proofs.lemmas.List.{length-append, length-map}
use Rattle.nbt.specs.Plain.{PlainField, compound, fields_of}
use Rattle.nbt.specs.Spelling.{AreBytes, IsText, CanStand, FieldsCanStand, CanBeSpelled}
use Rattle.block_table.specs.declared.Block.{Block}
use Rattle.block_table.specs.WrittenText.{state_text}
use Rattle.build.specs.declared.Pending.{Pending}
use Rattle.build.specs.Plan.{Plan, IsWhole}
use Rattle.schem_write.specs.declared.Layout.{Layout}
use Rattle.schem_write.specs.declared.Layout.TheVariants.{Second, Third}
use Rattle.schem_write.specs.Varint.{varint}
use Rattle.schem_write.specs.PaletteTexts.{palette_of, cells_of, number_in, first_ones}
use Rattle.schem_write.specs.Written.{size, head, body, metadata, tick_numbers, root_of, root3_of}
use Rattle.schem_write.proofs.Shortest.{length-varint}
use Rattle.schem_write.proofs.FirstOnes.{cells_by, length-first_ones}
use Rattle.schem_write.proofs.TextBytes.{named, cells-bytes}
use Rattle.schem_write.proofs.Spellable.{palette-stands, entities_of-stands, placed}
use Rattle.schem_write.proofs.TickSteps.{Waits, timely-parts, all-wait, few-ticks, length-numbers}

pub number_in-le : (palette : List (List ℕ)) (t : List ℕ) → number_in palette t ≤ length palette
number_in-le [] t = omega arith
number_in-le (s ∷ palette) t = elim (cases_Bool (bytes_eq t s)) [
  | inl e ↦ rw e (omega arith)
  | inr e ↦ (let rest : number_in palette t ≤ length palette = number_in-le palette t in rw e (omega arith))
]

length-cells_by : (palette texts : List (List ℕ)) → length palette < 2 ^ 35 → length (cells_by palette texts) ≤ 5 * length texts
length-cells_by palette [] h = omega arith
length-cells_by palette (t ∷ texts) h =
    let n : ℕ = number_in palette t in
    let one : length (varint n) ≤ 5 = length-varint n (omega (arith, number_in-le palette t)) in
    let rest : length (cells_by palette texts) ≤ 5 * length texts = length-cells_by palette texts h in
    omega (arith, length-append (varint n) (cells_by palette texts))

length-cells : (blocks : List Block) → length blocks ≤ 2 ^ 24 → length (cells_of blocks) < 2 ^ 31
unfolding cells_of palette_of
length-cells blocks h =
    let texts : List (List ℕ) = map state_text blocks in
    let count : length texts ≡ length blocks = length-map blocks state_text in
    omega (arith, length-cells_by (first_ones texts) texts (omega (arith, length-first_ones texts)))

cells_of-bytes : (blocks : List Block) → AreBytes (cells_of blocks)
unfolding cells_of palette_of
cells_of-bytes blocks = cells-bytes (first_ones (map state_text blocks)) (map state_text blocks)

size-stands : (depth n : ℕ) → n < 65536 → CanStand depth (size n)
size-stands depth n h = sfits_to_z {w = w16} (record { fits = omega arith })

numbers-fit : (b : Plan) (ticks : List Pending) → IsWhole b → AllByRecursion (Waits b) ticks → AllByRecursion (FitsSigned w32) (flat_map tick_numbers ticks)
numbers-fit b [] w h = tt
numbers-fit b (t ∷ ticks) w h =
    let p = placed b t.pos w h.0.inside in
    let due = timely-parts t h.0.timely in
    (p.x, (p.y, (p.z, (record { sfits = omega (arith, due.last) }, (record { sfits = omega (arith, due.low) }, numbers-fit b ticks w h.1)))))

metadata-stands : (depth : ℕ) (b : Plan) (ticks : List Pending) → depth < 500 → IsWhole b → AllByRecursion (Waits b) ticks → length ticks ≤ 2 ^ 24 → FieldsCanStand depth (fields_of (metadata ticks))
metadata-stands depth b [] d w h l = tt
metadata-stands depth b (t ∷ ticks) d w h l =
    (named (codes "Metadata") refl, (omega arith, (named (codes "RedpilePending") refl, (omega (arith, length-numbers (t ∷ ticks)), numbers-fit b (t ∷ ticks) w h), tt)), tt)

head-stands : (depth : ℕ) (version : ℤ) (b : Plan) (rest : List PlainField) → IsWhole b → FitsSigned w32 version → FitsSigned w32 b.data_version → FieldsCanStand depth (fields_of rest) → FieldsCanStand depth (fields_of (head version b ++ rest))
head-stands depth version b rest w v d r =
    (named (codes "Version") refl, v, (named (codes "DataVersion") refl, d, (named (codes "Width") refl, size-stands depth b.width w.narrow, (named (codes "Height") refl, size-stands depth b.height w.low, (named (codes "Length") refl, size-stands depth b.depth w.shallow, r)))))

body-stands : (depth : ℕ) (layout : Layout) (name : List ℕ) (b : Plan) (rest : List PlainField) → depth < 500 → IsText name → IsWhole b → FieldsCanStand depth (fields_of rest) → FieldsCanStand depth (fields_of (body layout name b ++ rest))
body-stands depth layout name b rest d n w r =
    let few : length b.blocks ≤ 2 ^ 24 = omega (arith, w.blocks, w.small) in
    (named (codes "Palette") refl, palette-stands depth b.blocks d few, (n, (length-cells b.blocks few, cells_of-bytes b.blocks), (named (codes "BlockEntities") refl, entities_of-stands depth layout b d w, r)))

pub root-spelled : (b : Plan) → IsWhole b → FitsSigned w32 b.data_version → CanBeSpelled (root_of b)
unfolding root_of
root-spelled b w d = (
  named (codes "Schematic") refl,
  head-stands 1 (pos 2) b (body Second (codes "BlockData") b ++ metadata b.pending) w (record { sfits = omega arith }) d
      (body-stands 1 Second (codes "BlockData") b (metadata b.pending) (lit< tt) (named (codes "BlockData") refl) w (metadata-stands 1 b b.pending (lit< tt) w (all-wait b b.pending w.waiting) (few-ticks b w))),
)

pub root3-spelled : (b : Plan) → IsWhole b → FitsSigned w32 b.data_version → CanBeSpelled (root3_of b)
unfolding root3_of
root3-spelled b w d = (
  named [] refl,
  (
    named (codes "Schematic") refl,
    (
      lit< tt,
      head-stands 2 (pos 3) b ((codes "Blocks", compound (fields_of (body Third (codes "Data") b))) ∷ metadata b.pending) w (record { sfits = omega arith }) d (
        named (codes "Blocks") refl,
        (lit< tt, body-stands 3 Third (codes "Data") b [] (lit< tt) (named (codes "Data") refl) w tt),
        metadata-stands 2 b b.pending (lit< tt) w (all-wait b b.pending w.waiting) (few-ticks b w),
      ),
    ),
    tt,
  ),
)
