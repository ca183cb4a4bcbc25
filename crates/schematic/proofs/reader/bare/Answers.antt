use Rattle.std.proofs.Common.{◌≡◌, ℕ, ℤ, List, Option, false, sym, ap, ◌∙◌, subst}
use Rattle.std.specs.Prelude.{option_map}
use Rattle.std.specs.Option.{is_none}
use Rattle.std.specs.Int.{w32}
use Rattle.std.proofs.lemmas.Int.{to_z-of_z}
use Rattle.std.specs.Ordering.{int_cmp}
use Rattle.build.specs.Edits.{fresh}
use Rattle.std.specs.BTreeMap.{get}
use Rattle.nbt.specs.Plain.{PlainFields, PlainField, plain_fields}
use Rattle.block_table.specs.declared.Block.{Block}
use Rattle.schematic.specs.Fields.{volume_of, cells_in}
use Rattle.schematic.specs.Palette.{clash, unknown_text, block_numbered}
use Rattle.schematic.specs.Cells.{cells_fault}
use Rattle.schematic.specs.File.{Refusal, wrong_cells, entries_in, bare, of_cells, first_some, IsCause, plain_refusal}
use Rattle.schematic.specs.Code.{plain_entries}
use Rattle.schematic.proofs.Firsts.{err_is, fault_same, blocks_same, by_numbers, all_listed, cells_second, cells_none}
use Rattle.schematic.proofs.reader.bare.Goals as goal

pub returns-in_err-blocks-clause-err : goal.returns-in_err-blocks-clause-err
returns-in_err-blocks-clause-err c =
    let R : PlainFields = plain_fields c.args.root.now.items in
    let E : List PlainField = entries_in R in
    let f : ℤ → Option Block = get int_cmp c.in-Some.numbered in
    let found = rw c.in-Some.is at c.in_ok-numbered.ensures.blocks in
    let same : f ≡ block_numbered E = by_numbers f (plain_entries c.args.entries.now) E found c.requires.entries in
    let differ : clash E ≡ false = ap clash (sym c.requires.entries) ∙ c.in_ok-numbered.ensures.clash ∙ ap is_none c.in-Some.is in
    let told : Option Refusal = plain_refusal c.in_err-blocks.field-0.0 in
    let faults : cells_fault f c.volume_of.result c.cells_in.result.now ≡ cells_fault (block_numbered E) (volume_of R) (cells_in R) =
    fault_same f (block_numbered E) c.volume_of.result (volume_of R) c.cells_in.result.now (cells_in R) same c.volume_of.ensures.value c.cells_in.ensures in
    err_is c.from_residual-in_err-blocks.result c.in_err-blocks.field-0.0 (λ e. IsCause (plain_refusal e) (first_some (of_cells R))) c.from_residual-in_err-blocks.ensures.1
    (cells_second R told differ (subst (λ (o : Option ℕ). IsCause told (option_map wrong_cells o)) faults c.in_err-blocks.ensures.err))

pub of_blocks-requires-clause-listed : goal.of_blocks-requires-clause-listed
of_blocks-requires-clause-listed c =
    let R : PlainFields = plain_fields c.args.root.now.items in
    let E : List PlainField = entries_in R in
    let f : ℤ → Option Block = get int_cmp c.in-Some.numbered in
    let found = rw c.in-Some.is at c.in_ok-numbered.ensures.blocks in
    let same : f ≡ block_numbered E = by_numbers f (plain_entries c.args.entries.now) E found c.requires.entries in
    all_listed E (cells_in R) c.in_ok-blocks.blocks.items (c.in_ok-blocks.ensures.blocks ∙ blocks_same f (block_numbered E) c.cells_in.result.now (cells_in R) same c.cells_in.ensures)

pub returns-clause-build : goal.returns-clause-build
unfolding bare
returns-clause-build c =
    let R : PlainFields = plain_fields c.args.root.now.items in
    let E : List PlainField = entries_in R in
    let f : ℤ → Option Block = get int_cmp c.in-Some.numbered in
    let found = rw c.in-Some.is at c.in_ok-numbered.ensures.blocks in
    let same : f ≡ block_numbered E = by_numbers f (plain_entries c.args.entries.now) E found c.requires.entries in
    let blocks = c.in_ok-blocks.ensures.blocks ∙ blocks_same f (block_numbered E) c.cells_in.result.now (cells_in R) same c.cells_in.ensures in
    let version = to_z-of_z w32 c.data_version_of-version.result (record { sfits = c.data_version_of-version.type_inv }) ∙ c.data_version_of-version.ensures in
    c.of_blocks.ensures ∙ (λ i. fresh (c.width_of.ensures i) (c.height_of.ensures i) (c.depth_of.ensures i) (version i) (blocks i))

pub returns-clause-sound : goal.returns-clause-sound
returns-clause-sound c =
    let R : PlainFields = plain_fields c.args.root.now.items in
    let E : List PlainField = entries_in R in
    let f : ℤ → Option Block = get int_cmp c.in-Some.numbered in
    let found = rw c.in-Some.is at c.in_ok-numbered.ensures.blocks in
    let same : f ≡ block_numbered E = by_numbers f (plain_entries c.args.entries.now) E found c.requires.entries in
    let differ : clash E ≡ false = ap clash (sym c.requires.entries) ∙ c.in_ok-numbered.ensures.clash ∙ ap is_none c.in-Some.is in
    let faults : cells_fault f c.volume_of.result c.cells_in.result.now ≡ cells_fault (block_numbered E) (volume_of R) (cells_in R) =
    fault_same f (block_numbered E) c.volume_of.result (volume_of R) c.cells_in.result.now (cells_in R) same c.volume_of.ensures.value c.cells_in.ensures in
    cells_none R differ (sym faults ∙ c.in_ok-blocks.ensures.sound) (ap unknown_text (sym c.requires.entries) ∙ sym c.in_default-unknown_text.ensures)
