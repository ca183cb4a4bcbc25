-- The roots that are written, read back.
use Rattle.std.proofs.Common.{◌≡◌, ℕ, ◌+◌, ◌^◌, ◌<◌, ◌≤◌, pos, List, [], ◌∷◌, ◌++◌, length, true, false, Option, Some, None, refl, sym, ap, ◌∙◌, arith}
use Rattle.std.specs.Prelude.{FitsSigned, nat_lt, codes}
use Rattle.std.specs.Int.{w16, w32, cast_signed, cast_unsigned}
use Rattle.std.specs.List.{flat_map, filter_map}
use Rattle.std.proofs.lemmas.Int.{of_z-to_z}
use Rattle.std.proofs.lemmas.Bool.Decides.{nat_tests}
use Rattle.nbt.specs.Plain.{PlainFields, compound, fields_of}
use Rattle.block_table.specs.declared.Block.{Block}
use Rattle.circuit.specs.declared.Pos.{Pos}
use Rattle.build.specs.declared.Pending.{Pending}
use Rattle.build.specs.Plan.{Plan, IsWhole, volume, places, block_at, entry, in_box}
use Rattle.build.specs.Edits.{fresh}
use Rattle.schematic.specs.Fields.{main, holder, width_of, height_of, depth_of, data_version_of, palette_of as palette_in, cells_in, pending_in, has_right_version, is_too_large, volume_of}
use Rattle.schematic.specs.Presence.{missing, wrong_kind, wrong_kind_with, all_ints}
use Rattle.schematic.specs.Palette.{entries_of, clash, unknown_text, block_numbered}
use Rattle.schematic.specs.Cells.{cells_fault, blocks_of}
use Rattle.schematic.specs.Entities.{Entity, entities_of as entities_in, counting, same_entity_place, signal_fault, with_all}
use Rattle.schematic.specs.Palette.{last_ones}
use Rattle.schematic.specs.PendingTicks.{pending_fault, ticks_of, with_ticks}
use Rattle.schematic.specs.File.{Refusal, entries_in, bare, build_of, first_some, of_fields, of_cells, of_state, refusal_in, file}
use Rattle.schem_write.specs.declared.Layout.{Layout}
use Rattle.schem_write.specs.declared.Layout.TheVariants.{Second, Third}
use Rattle.schem_write.specs.PaletteTexts.{palette_of, cells_of, numbered_from}
use Rattle.schem_write.specs.BlockEntities.{entities_of}
use Rattle.schem_write.specs.Written.{head, body, metadata, tick_numbers, root_of, root3_of, written, written3}
use Rattle.schem_write.proofs.SpellableRoots.{root-spelled, root3-spelled}
use Rattle.schem_write.proofs.ReadCells.{entries-back, palette-apart, palette-known, blocks-listed, cells-right, cells-back}
use Rattle.schem_write.proofs.ReadEntities.{read_at, all-read, all-count, levels-back, no-signal_fault}
use Rattle.schem_write.proofs.TickSteps.{all-wait, ticks-back, no-pending_fault}

-- What a reader finds in the fields of a root.
record Holds (R : PlainFields) (b : Plan) (layout : Layout) : Type 0 where
  present : missing R ≡ None
  kinds : wrong_kind R ≡ None
  version : has_right_version R ≡ true
  width : width_of R ≡ b.width
  height : height_of R ≡ b.height
  depth : depth_of R ≡ b.depth
  data_version : data_version_of R ≡ b.data_version
  entries : entries_in R ≡ numbered_from 0 (palette_of b.blocks)
  cells : cells_in R ≡ cells_of b.blocks
  entities : entities_in R ≡ filter_map (read_at layout b) (places b)
  pending : pending_in R ≡ flat_map tick_numbers b.pending

-- ---- from what is found to the build

-- the box with its blocks alone
abbrev blocks_alone : Plan → Plan
blocks_alone b = fresh b.width b.height b.depth b.data_version b.blocks

same-blocks : (b : Plan) (p : Pos) → block_at (blocks_alone b) p ≡ block_at b p
unfolding entry in_box
same-blocks b p = refl

few : (b : Plan) → IsWhole b → length b.blocks ≤ 2 ^ 24
few b w = omega (arith, w.blocks, w.small)

volume-is : (R : PlainFields) (b : Plan) (layout : Layout) → Holds R b layout → volume_of R ≡ volume b
volume-is R b layout h = rw (h.width, h.height, h.depth) refl

bare-is : (R : PlainFields) (b : Plan) (layout : Layout) → Holds R b layout → IsWhole b → bare R ≡ blocks_alone b
unfolding bare
bare-is R b layout h w =
    let blocks : blocks_of (block_numbered (entries_in R)) (cells_in R) ≡ b.blocks =
    ap (λ es. blocks_of (block_numbered es) (cells_in R)) h.entries ∙ ap (blocks_of (block_numbered (numbered_from 0 (palette_of b.blocks)))) h.cells ∙ cells-back b.blocks (few b w) (blocks-listed b w) in
    rw (h.width, h.height, h.depth, h.data_version, blocks) refl

counting-is : (R : PlainFields) (b : Plan) (layout : Layout) → Holds R b layout → counting R ≡ filter_map (read_at layout b) (places b)
unfolding counting
counting-is R b layout h = ap (last_ones same_entity_place) h.entities ∙ all-count layout b

skip : (xs ys : List (Option Refusal)) → first_some xs ≡ None → first_some (xs ++ ys) ≡ first_some ys
skip [] ys h = refl
skip (None ∷ xs) ys h = skip xs ys h
skip (Some r ∷ xs) ys h = absurd (cc)

no-fields : (R : PlainFields) (b : Plan) (layout : Layout) → Holds R b layout → IsWhole b → first_some (of_fields R) ≡ None
no-fields R b layout h w =
    let small : is_too_large R ≡ false = ap (nat_lt 16777216) (volume-is R b layout h) ∙ within in
    rw (h.present, h.kinds, h.version, small) refl
  where
    within : nat_lt 16777216 (volume b) ≡ false
    within = grind (arith, nat_tests, w.small)

no-cells : (R : PlainFields) (b : Plan) (layout : Layout) → Holds R b layout → IsWhole b → first_some (of_cells R) ≡ None
no-cells R b layout h w =
    let a : clash (entries_in R) ≡ false = ap clash h.entries ∙ palette-apart b.blocks in
    let count : volume_of R ≡ length b.blocks = volume-is R b layout h ∙ sym w.blocks in
    let c : cells_fault (block_numbered (entries_in R)) (volume_of R) (cells_in R) ≡ None =
    ap (λ es. cells_fault (block_numbered es) (volume_of R) (cells_in R)) h.entries
    ∙ ap (λ n. cells_fault (block_numbered (numbered_from 0 (palette_of b.blocks))) n (cells_in R)) count
    ∙ ap (cells_fault (block_numbered (numbered_from 0 (palette_of b.blocks))) (length b.blocks)) h.cells
    ∙ cells-right b.blocks (few b w) (blocks-listed b w) in
    let u : unknown_text (entries_in R) ≡ None = ap unknown_text h.entries ∙ palette-known b.blocks (blocks-listed b w) in
    rw (a, c, u) refl

no-state : (R : PlainFields) (b : Plan) (layout : Layout) → Holds R b layout → IsWhole b → first_some (of_state R) ≡ None
no-state R b layout h w =
    let s : signal_fault (bare R) (counting R) ≡ None =
    ap (λ c. signal_fault c (counting R)) (bare-is R b layout h w) ∙ ap (signal_fault (blocks_alone b)) (counting-is R b layout h) ∙ no-signal_fault layout b (blocks_alone b) w (same-blocks b) in
    let p : pending_fault (bare R) (pending_in R) ≡ None =
    ap (λ c. pending_fault c (pending_in R)) (bare-is R b layout h w) ∙ ap (pending_fault (blocks_alone b)) h.pending ∙ no-pending_fault b (blocks_alone b) (same-blocks b) w in
    rw (s, p) refl

accepted : (R : PlainFields) (b : Plan) (layout : Layout) → Holds R b layout → IsWhole b → refusal_in R ≡ None
unfolding refusal_in
accepted R b layout h w =
    skip (of_fields R) (of_cells R ++ of_state R) (no-fields R b layout h w) ∙ skip (of_cells R) (of_state R) (no-cells R b layout h w) ∙ no-state R b layout h w

means : (R : PlainFields) (b : Plan) (layout : Layout) → Holds R b layout → IsWhole b → build_of R ≡ b
unfolding build_of
means R b layout h w =
    let read : List Entity = filter_map (read_at layout b) (places b) in
    let ticks : ticks_of (pending_in R) ≡ b.pending = ap ticks_of h.pending ∙ ticks-back b b.pending (all-wait b b.pending w.waiting) in
    ap (λ c. with_ticks (with_all c (counting R)) (ticks_of (pending_in R))) (bare-is R b layout h w)
    ∙ ap (λ es. with_ticks (with_all (blocks_alone b) es) (ticks_of (pending_in R))) (counting-is R b layout h)
    ∙ ap (λ ts. with_ticks (with_all (blocks_alone b) read) ts) ticks
    ∙ ap (λ ls. record b { levels = ls }) (levels-back layout b (blocks_alone b) w (same-blocks b))

-- ---- what is found in each of the two layouts

size-back : (n : ℕ) → n < 65536 → cast_unsigned w16 (cast_signed w16 n) ≡ n
size-back n h = of_z-to_z w16 n h

ints-numbered : (n : ℕ) (ts : List (List ℕ)) → all_ints (numbered_from n ts) ≡ true
ints-numbered n [] = refl
ints-numbered n (t ∷ ts) = ints-numbered (n + 1) ts

palette-right : (blocks : List Block) → all_ints (entries_of (fields_of (numbered_from 0 (palette_of blocks)))) ≡ true
palette-right blocks = ap all_ints (entries-back blocks) ∙ ints-numbered 0 (palette_of blocks)

second : Plan → List Pending → PlainFields
second b ticks = fields_of (head (pos 2) b ++ (body Second (codes "BlockData") b ++ metadata ticks))

third : Plan → List Pending → PlainFields
third b ticks = fields_of ((codes "Schematic", compound (fields_of (head (pos 3) b ++ ((codes "Blocks", compound (fields_of (body Third (codes "Data") b))) ∷ metadata ticks)))) ∷ [])

kinds-second : (b : Plan) (ticks : List Pending) → wrong_kind_with (second b ticks) true ≡ None
unfolding second wrong_kind_with main holder entities_of
kinds-second b [] = refl
kinds-second b (t ∷ ts) = refl

kinds-third : (b : Plan) (ticks : List Pending) → wrong_kind_with (third b ticks) true ≡ None
unfolding third wrong_kind_with main holder entities_of
kinds-third b [] = refl
kinds-third b (t ∷ ts) = refl

second-holds : (b : Plan) (ticks : List Pending) → b.pending ≡ ticks → IsWhole b → Holds (second b ticks) b Second
unfolding second missing main holder width_of height_of depth_of data_version_of palette_in cells_in pending_in entities_in entities_of
second-holds b [] e w = record {
  present = refl;
  kinds = ap (wrong_kind_with (second b [])) (palette-right b.blocks) ∙ kinds-second b [];
  version = refl;
  width = size-back b.width w.narrow;
  height = size-back b.height w.low;
  depth = size-back b.depth w.shallow;
  data_version = refl;
  entries = entries-back b.blocks;
  cells = refl;
  entities = all-read Second b;
  pending = ap (flat_map tick_numbers) (sym e);
}
second-holds b (t ∷ ts) e w = record {
  present = refl;
  kinds = ap (wrong_kind_with (second b (t ∷ ts))) (palette-right b.blocks) ∙ kinds-second b (t ∷ ts);
  version = refl;
  width = size-back b.width w.narrow;
  height = size-back b.height w.low;
  depth = size-back b.depth w.shallow;
  data_version = refl;
  entries = entries-back b.blocks;
  cells = refl;
  entities = all-read Second b;
  pending = ap (flat_map tick_numbers) (sym e);
}

third-holds : (b : Plan) (ticks : List Pending) → b.pending ≡ ticks → IsWhole b → Holds (third b ticks) b Third
unfolding third missing main holder width_of height_of depth_of data_version_of palette_in cells_in pending_in entities_in entities_of
third-holds b [] e w = record {
  present = refl;
  kinds = ap (wrong_kind_with (third b [])) (palette-right b.blocks) ∙ kinds-third b [];
  version = refl;
  width = size-back b.width w.narrow;
  height = size-back b.height w.low;
  depth = size-back b.depth w.shallow;
  data_version = refl;
  entries = entries-back b.blocks;
  cells = refl;
  entities = all-read Third b;
  pending = ap (flat_map tick_numbers) (sym e);
}
third-holds b (t ∷ ts) e w = record {
  present = refl;
  kinds = ap (wrong_kind_with (third b (t ∷ ts))) (palette-right b.blocks) ∙ kinds-third b (t ∷ ts);
  version = refl;
  width = size-back b.width w.narrow;
  height = size-back b.height w.low;
  depth = size-back b.depth w.shallow;
  data_version = refl;
  entries = entries-back b.blocks;
  cells = refl;
  entities = all-read Third b;
  pending = ap (flat_map tick_numbers) (sym e);
}

pub written-file : (b : Plan) → IsWhole b → FitsSigned w32 b.data_version → file (written b) b
unfolding written root_of second
written-file b w d =
    let h : Holds (root_of b).fields b Second = second-holds b b.pending refl w in
    record {
      root = root_of b;
      spells = (root-spelled b w d, refl);
      accepted = accepted (root_of b).fields b Second h w;
      means = sym (means (root_of b).fields b Second h w);
    }

pub written3-file : (b : Plan) → IsWhole b → FitsSigned w32 b.data_version → file (written3 b) b
unfolding written3 root3_of third
written3-file b w d =
    let h : Holds (root3_of b).fields b Third = third-holds b b.pending refl w in
    record {
      root = root3_of b;
      spells = (root3-spelled b w d, refl);
      accepted = accepted (root3_of b).fields b Third h w;
      means = sym (means (root3_of b).fields b Third h w);
    }
