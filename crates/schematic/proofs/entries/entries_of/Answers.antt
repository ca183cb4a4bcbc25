use Rattle.std.proofs.Common.{◌≡◌, ℕ, List, map, drop, sym, ap, ◌∙◌, arith}
use Rattle.nbt.specs.Plain.{PlainField, plain_field}
use Rattle.nbt.proofs.Views.{plain-Field}
use Rattle.schematic.specs.Palette.{last_ones, same_name, pairs_of, entries_of}
use Rattle.schematic.specs.Code.{plain_entries, plain_held}
use Rattle.schematic.proofs.Names.{from_index, counts, counts_not, known_more, one_more, turned, pairs-fields}
use Rattle.schematic.proofs.entries.entries_of.Goals as goal

pub loop-index-preserved-in-Continue-branch-2 : goal.loop-index-preserved-in-Continue-branch-2
loop-index-preserved-in-Continue-branch-2 c =
    let fs = c.in-Some.fields.now.items in
    let i = c.loop-index.index in
    let inv = c.loop-index.invariant in
    let some = c.loop-index-test.true in
    let f = c.index-field.result.now in
    let rest : List PlainField = map plain_field (drop i fs) in
    let keys = c.loop-index.names.keys in
    let name = c.deref.result.now in
    let from = from_index fs i f (omega arith) inv.within c.index-field.ensures in
    let named : (plain_field f).0 ≡ name = ap (λ (p : PlainField). p.0) (plain-Field f) ∙ sym c.deref.ensures.value in
    record {
      within = omega (arith, inv.within);
      known = rw from (known_more (plain_field f) rest keys c.add_name.new.names.keys name named inv.known c.in_ok-add_name.ensures.names);
      counted = rw (from, c.in_ok-push.ensures.items) (one_more c.index-field.result c.loop-index.entries.items (last_ones same_name rest) inv.counted
          ∙ sym (counts (plain_field f) rest keys name named (inv.known name) (sym c.if-branch.true ∙ c.in_ok-add_name.ensures.added)));
    }

pub loop-index-preserved : goal.loop-index-preserved
loop-index-preserved c =
    let fs = c.in-Some.fields.now.items in
    let i = c.loop-index.index in
    let inv = c.loop-index.invariant in
    let some = c.loop-index-test.true in
    let f = c.index-field.result.now in
    let rest : List PlainField = map plain_field (drop i fs) in
    let keys = c.loop-index.names.keys in
    let name = c.deref.result.now in
    let from = from_index fs i f (omega arith) inv.within c.index-field.ensures in
    let named : (plain_field f).0 ≡ name = ap (λ (p : PlainField). p.0) (plain-Field f) ∙ sym c.deref.ensures.value in
    record {
      within = omega (arith, inv.within);
      known = rw from (known_more (plain_field f) rest keys c.add_name.new.names.keys name named inv.known c.in_ok-add_name.ensures.names);
      counted = rw from (inv.counted ∙ sym (counts_not (plain_field f) rest keys name named (inv.known name) (sym c.if-branch.false ∙ c.in_ok-add_name.ensures.added)));
    }

pub returns : goal.returns
unfolding entries_of
returns c =
    let fs = c.in-Some.fields.now.items in
    let first : c.loop-index.index ≡ 0 = omega (arith, c.loop-index-test.false) in
    let counted = c.loop-index.invariant.counted in
    ap plain_entries c.reverse.ensures.items ∙ turned c.loop-index.entries.items ∙ counted
    ∙ ap (λ (k : ℕ). last_ones same_name (map plain_field (drop k fs))) first
    ∙ ap (last_ones same_name) (sym (pairs-fields (map plain_field fs)))
    ∙ ap (λ o. last_ones same_name (pairs_of (plain_held o))) (sym c.in-Some.is)
