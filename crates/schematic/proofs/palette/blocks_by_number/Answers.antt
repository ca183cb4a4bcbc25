use Rattle.std.proofs.Common.{◌≡◌, ◌+◌, ℤ, List, Some, cond, true, false, take, drop, sym, ap, ◌∙◌, arith, to_z, of_z}
use Rattle.std.specs.Prelude.{is_some}
use Rattle.std.specs.Int.{w64}
use Rattle.std.proofs.lemmas.Int.{to_z-of_z}
use Rattle.std.specs.Ordering.{int_cmp, int_eq}
use Rattle.std.specs.BTreeMap.{get}
use Rattle.nbt.specs.Plain.{PlainField, plain_field}
use Rattle.nbt.proofs.Views.{plain-Field}
use Rattle.block_table.specs.BlockText.{block_of}
use Rattle.schematic.specs.Palette.{number_of, clash, block_or_air, block_numbered}
use Rattle.schematic.specs.Code.{plain_entries}
use Rattle.schematic.proofs.Numbered.{taken_more, clash_found, clash_none, block_put, whole_again}
use Rattle.schematic.proofs.palette.blocks_by_number.Goals as goal

pub returns-then-is_some-clause-clash : goal.returns-then-is_some-clause-clash
returns-then-is_some-clause-clash c =
    let es = c.args.entries.now in
    let i = c.loop-entry.entry-index in
    let f = c.entry-item.result in
    let same : to_z w64 (of_z w64 c.number_of.result) ≡ c.number_of.result = to_z-of_z w64 c.number_of.result (record { sfits = c.number_of.type_inv }) in
    let before : List PlainField = plain_entries (take i es) in
    let known : is_some (block_numbered before (number_of (plain_field f.now))) ≡ true =
    ap is_some (ap (block_numbered before) (sym c.number_of.ensures) ∙ sym (c.loop-entry.invariant.blocks c.number_of.result) ∙ ap (get int_cmp c.loop-entry.blocks) (sym same) ∙ sym c.in_ok-known.ensures.old) ∙ sym c.is_some.ensures ∙ c.if-is_some.true in
    ap clash (whole_again es i f (omega arith) c.entry-item.is) ∙ clash_found before (plain_entries (drop (i + 1) es)) (plain_field f.now) known

pub loop-entry-preserved : goal.loop-entry-preserved
loop-entry-preserved c =
    let es = c.args.entries.now in
    let i = c.loop-entry.entry-index in
    let f = c.entry-item.result in
    let same : to_z w64 (of_z w64 c.number_of.result) ≡ c.number_of.result = to_z-of_z w64 c.number_of.result (record { sfits = c.number_of.type_inv }) in
    let before : List PlainField = plain_entries (take i es) in
    let none : is_some (block_numbered before (number_of (plain_field f.now))) ≡ false =
    ap is_some (ap (block_numbered before) (sym c.number_of.ensures) ∙ sym (c.loop-entry.invariant.blocks c.number_of.result) ∙ ap (get int_cmp c.loop-entry.blocks) (sym same) ∙ sym c.in_ok-known.ensures.old) ∙ sym c.is_some.ensures ∙ c.if-is_some.false in
    let more = taken_more es i f (omega arith) c.entry-item.is in
    let text : (plain_field f.now).0 ≡ c.deref.result.now = ap (λ (p : PlainField). p.0) (plain-Field f.now) ∙ sym c.deref.ensures.value in
    let block : c.block_or_air-block.result ≡ block_or_air (block_of (plain_field f.now).0) = c.block_or_air-block.ensures ∙ ap block_or_air (c.parse_state.ensures.value ∙ ap block_of (sym text)) in
    record {
      differ = ap clash more ∙ clash_none before (plain_field f.now) c.loop-entry.invariant.differ none;
      blocks = λ q. block_put before (plain_field f.now) c.block_or_air-block.result (get int_cmp c.loop-entry.blocks) (get int_cmp c.insert.new.self) c.loop-entry.invariant.blocks block none (λ r. c.in_ok-known.ensures.updates.0 r ∙ ap (λ (n : ℤ). cond (int_eq n r) (Some c.block_or_air-block.result) (get int_cmp c.loop-entry.blocks r)) (same ∙ c.number_of.ensures)) q
          ∙ ap (λ (ps : List PlainField). block_numbered ps q) (sym more);
    }
