use Rattle.std.proofs.Common.{◌≡◌, ◌≢◌, ◌-◌, map, drop, Some, sym, ap, ◌∙◌, arith}
use Rattle.std.specs.Cmp.Lexicographic.{same_text, other_text}
use Rattle.nbt.specs.Plain.{plain_field, PlainField}
use Rattle.nbt.proofs.Finding.{found-here, none-here, fields-from, none-from}
use Rattle.nbt.proofs.Views.{plain-Field}
use Rattle.nbt.proofs.fields.find_field.Goals as goal

pub returns-then-eq : goal.returns-then-eq
returns-then-eq c =
    let fs = c.args.fields.now.items in
    let name = c.args.name.now in
    let index = c.loop-index.index in
    let some = c.loop-index-test.true in
    let bound = c.loop-index.invariant.0 in
    let f = c.index-field.result.now in
    let from = fields-from fs (index - 1) index f (omega arith) (omega arith) c.index-field.ensures in
    let same : (plain_field f).0 ≡ name = ap (λ (p : PlainField). p.0) (plain-Field f) ∙ sym c.as_slice.ensures.value ∙ same_text c.as_slice.result.now name c.if-eq.ensures in
    sym (ap (λ (p : PlainField). Some p.1) (plain-Field f)) ∙ found-here name (map plain_field fs) (map plain_field (drop index fs)) (index - 1) (plain_field f) from c.loop-index.invariant.1 same

pub loop-index-preserved : goal.loop-index-preserved
loop-index-preserved c =
    let fs = c.args.fields.now.items in
    let name = c.args.name.now in
    let index = c.loop-index.index in
    let some = c.loop-index-test.true in
    let bound = c.loop-index.invariant.0 in
    let f = c.index-field.result.now in
    let from = fields-from fs (index - 1) index f (omega arith) (omega arith) c.index-field.ensures in
    let differ : (plain_field f).0 ≢ name = λ e. other_text c.as_slice.result.now name c.if-eq.ensures (c.as_slice.ensures.value ∙ sym (ap (λ (p : PlainField). p.0) (plain-Field f)) ∙ e) in
    (omega arith, none-from name fs (index - 1) (none-here name (map plain_field fs) (map plain_field (drop index fs)) (index - 1) (plain_field f) from c.loop-index.invariant.1 differ))
