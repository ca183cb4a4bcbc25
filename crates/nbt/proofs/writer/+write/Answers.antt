use Rattle.std.proofs.Common.{◌≡◌, ◌<◌, ◌≤◌, ◌+◌, ◌*◌, ℕ, suc, ◌∷◌, [], ◌++◌, List, length, drop, sym, ap, ◌∙◌, subst, arith, rules, append_assoc}
use Rattle.nbt.specs.Plain.{PlainTree, plain_tree, plain_trees, plain_fields}
use Rattle.nbt.specs.Spelling.{unsigned, short_text, type_of, payload, count, item_payloads, field_spellings}
use Rattle.nbt.specs.Writing.{CanStandSomewhere, FieldsCanStandSomewhere, ItemsCanStandSomewhere}
use Rattle.nbt.specs.declared.trees.Field.{Field}
use Rattle.nbt.specs.declared.trees.Tree.{Tree}
use Rattle.nbt.proofs.Views.{plain-List, plain-Compound}
use Rattle.nbt.proofs.Appends.{any-err, then-ok, then-err, longer-then, longer-by, items-at, fields-at, fields-spelled, fields-stand-at, field-pushed, count-plain, left-shorter, item-shorter, field-shorter, list-longer, compound-longer}
use Rattle.std.specs.Int.{w32}
use Rattle.nbt.proofs.writer.+write.Goals as goal

pub push_fields-returns-in_err-push_u8-clause-err : goal.push_fields-returns-in_err-push_u8-clause-err
push_fields-returns-in_err-push_u8-clause-err t c =
    any-err _ (longer-then c.args.out.now.items c.loop-field.out.items c.push_u8.new.out.items c.loop-field.invariant.2 c.in_err-push_u8.ensures.err)

pub push_fields-push_text-requires : goal.push_fields-push_text-requires
push_fields-push_text-requires t c =
    let xs = c.deref-field-items.result.now in
    let i = c.loop-field.field-index in
    let x = c.field-item.result in
    let some = c.loop-field-test.true in
    let here = fields-at xs i x (omega arith) c.field-item.is in
    let kept = subst (λ (ys : List Field). FieldsCanStandSomewhere (plain_fields ys)) here c.loop-field.invariant.1 in
    let stands = fields-stand-at x (drop (i + 1) xs) kept.0 kept.1 in
    omega (arith, ap length c.deref.ensures.value, stands.0.0)

pub push_fields-returns-in_err-push_text-clause-err : goal.push_fields-returns-in_err-push_text-clause-err
push_fields-returns-in_err-push_text-clause-err t c =
    let first = longer-then c.args.out.now.items c.loop-field.out.items c.push_u8.new.out.items c.loop-field.invariant.2 (longer-by c.loop-field.out.items c.push_u8.new.out.items _ c.in_ok-push_u8.ensures.ok) in
    any-err _ (longer-then c.args.out.now.items c.push_u8.new.out.items c.push_text.new.out.items first c.in_err-push_text.ensures.err)

pub push_fields-returns-in_err-push_payload-clause-err : goal.push_fields-returns-in_err-push_payload-clause-err
push_fields-returns-in_err-push_payload-clause-err t c =
    let first = longer-then c.args.out.now.items c.loop-field.out.items c.push_u8.new.out.items c.loop-field.invariant.2 (longer-by c.loop-field.out.items c.push_u8.new.out.items _ c.in_ok-push_u8.ensures.ok) in
    let second = longer-then c.args.out.now.items c.push_u8.new.out.items c.push_text.new.out.items first (longer-by c.push_u8.new.out.items c.push_text.new.out.items _ c.in_ok-push_text.ensures.ok) in
    any-err _ (longer-then c.args.out.now.items c.push_text.new.out.items c.push_payload.new.out.items second c.in_err-push_payload.ensures.err)

pub push_fields-loop-field-preserved : goal.push_fields-loop-field-preserved
push_fields-loop-field-preserved t c =
    let xs = c.deref-field-items.result.now in
    let i = c.loop-field.field-index in
    let x = c.field-item.result in
    let some = c.loop-field-test.true in
    let here = fields-at xs i x (omega arith) c.field-item.is in
    let kept = subst (λ (ys : List Field). FieldsCanStandSomewhere (plain_fields ys)) here c.loop-field.invariant.1 in
    let stands = fields-stand-at x (drop (i + 1) xs) kept.0 kept.1 in
    let later = field_spellings (plain_fields (drop (i + 1) xs)) in
    let first = longer-then c.args.out.now.items c.loop-field.out.items c.push_u8.new.out.items c.loop-field.invariant.2 (longer-by c.loop-field.out.items c.push_u8.new.out.items _ c.in_ok-push_u8.ensures.ok) in
    let second = longer-then c.args.out.now.items c.push_u8.new.out.items c.push_text.new.out.items first (longer-by c.push_u8.new.out.items c.push_text.new.out.items _ c.in_ok-push_text.ensures.ok) in
    let byte : c.push_u8.new.out.items ≡ c.loop-field.out.items ++ (type_of (plain_tree x.tree) ∷ []) = c.in_ok-push_u8.ensures.ok ∙ ap (λ (k : ℕ). c.loop-field.out.items ++ (k ∷ [])) c.type_of.ensures in
    let name : c.push_text.new.out.items ≡ c.push_u8.new.out.items ++ short_text x.name.items.items = c.in_ok-push_text.ensures.ok ∙ ap (λ (s : List ℕ). c.push_u8.new.out.items ++ short_text s) c.deref.ensures.value in (
      field-pushed c.loop-field.out.items c.push_u8.new.out.items c.push_text.new.out.items c.push_payload.new.out.items (short_text x.name.items.items) (payload (plain_tree x.tree)) later (type_of (plain_tree x.tree))
          byte name c.in_ok-push_payload.ensures.ok
          ∙ ap (λ (s : List ℕ). c.loop-field.out.items ++ s) (sym (fields-spelled x (drop (i + 1) xs)) ∙ sym (ap (λ (ys : List Field). field_spellings (plain_fields ys)) here))
          ∙ c.loop-field.invariant.0,
      (kept.0, stands.2),
      longer-then c.args.out.now.items c.push_text.new.out.items c.push_payload.new.out.items second (longer-by c.push_text.new.out.items c.push_payload.new.out.items _ c.in_ok-push_payload.ensures.ok),
    )

pub push_fields-returns-clause-err : goal.push_fields-returns-clause-err
push_fields-returns-clause-err t c =
    then-err c.push_u8-2.result c.push_u8-2.ensures.err (λ more. longer-then c.args.out.now.items c.loop-field.out.items c.push_u8-2.new.out.items c.loop-field.invariant.2 more)

pub push_items-returns-in_err-push_payload-clause-err : goal.push_items-returns-in_err-push_payload-clause-err
push_items-returns-in_err-push_payload-clause-err t c =
    any-err _ (longer-then c.args.out.now.items c.loop-item.out.items c.push_payload.new.out.items c.loop-item.invariant.2 c.in_err-push_payload.ensures.err)

pub push_payload-push_list_head-requires : goal.push_payload-push_list_head-requires
push_payload-push_list_head-requires t c =
    let stands = subst CanStandSomewhere (ap plain_tree c.in-List.is ∙ plain-List c.in-List.element c.in-List.items) c.requires in
    omega (arith, c.len.ensures, c.in-List.items.ok.0, count-plain c.in-List.items.items, stands.1.4)

pub push_payload-push_items-requires : goal.push_payload-push_items-requires
push_payload-push_items-requires t c =
    let is = ap plain_tree c.in-List.is ∙ plain-List c.in-List.element c.in-List.items in
    let stands = subst CanStandSomewhere is c.requires in
    let held : ItemsCanStandSomewhere (plain_trees c.in-List.items.items) = (suc stands.0, c.in-List.element, stands.1.5) in
    let smaller = list-longer (plain_tree c.args.tree.now) c.in-List.element (plain_trees c.in-List.items.items) is in
    search rules

pub push_payload-push_fields-requires : goal.push_payload-push_fields-requires
push_payload-push_fields-requires t c =
    let is = ap plain_tree c.in-Compound.is ∙ plain-Compound c.in-Compound.fields in
    let stands = subst CanStandSomewhere is c.requires in
    let held : FieldsCanStandSomewhere (plain_fields c.in-Compound.fields.items) = (suc stands.0, stands.1.1) in
    let smaller = compound-longer (plain_tree c.args.tree.now) (plain_fields c.in-Compound.fields.items) is in
    search rules

pub push_items-push_payload-requires : goal.push_items-push_payload-requires
push_items-push_payload-requires t c =
    let xs = c.deref-item-items.result.now in
    let i = c.loop-item.item-index in
    let x = c.item-item.result in
    let some = c.loop-item-test.true in
    let later = drop (i + 1) xs in
    let here = items-at xs i x (omega arith) c.item-item.is in
    let kept = subst (λ (ys : List Tree). ItemsCanStandSomewhere (plain_trees ys)) here c.loop-item.invariant.1 in
    let held : CanStandSomewhere (plain_tree x) = (kept.0, kept.2.1) in
    let left = subst (λ (ys : List Tree). length (item_payloads (plain_trees ys)) ≤ length (item_payloads (plain_trees xs))) here
    (left-shorter c.args.out.now.items c.loop-item.out.items (item_payloads (plain_trees (drop i xs))) (item_payloads (plain_trees xs)) c.loop-item.invariant.0 c.loop-item.invariant.2) in
    let first = item-shorter x later in
    let all : length (item_payloads (plain_trees xs)) ≡ length (item_payloads (plain_trees c.args.items.now.items)) =
    ap (λ (ys : List Tree). length (item_payloads (plain_trees ys))) c.deref-item-items.ensures.value in
    let smaller : 2 * length (payload (plain_tree x)) < 2 * length (item_payloads (plain_trees c.args.items.now.items)) + 1 = omega arith in
    search rules

pub push_fields-push_payload-requires : goal.push_fields-push_payload-requires
push_fields-push_payload-requires t c =
    let xs = c.deref-field-items.result.now in
    let i = c.loop-field.field-index in
    let x = c.field-item.result in
    let some = c.loop-field-test.true in
    let later = drop (i + 1) xs in
    let here = fields-at xs i x (omega arith) c.field-item.is in
    let kept = subst (λ (ys : List Field). FieldsCanStandSomewhere (plain_fields ys)) here c.loop-field.invariant.1 in
    let stands = fields-stand-at x later kept.0 kept.1 in
    let held : CanStandSomewhere (plain_tree x.tree) = (kept.0, stands.1) in
    let left = subst (λ (ys : List Field). length (field_spellings (plain_fields ys)) ≤ length (field_spellings (plain_fields xs))) here
    (left-shorter c.args.out.now.items c.loop-field.out.items (field_spellings (plain_fields (drop i xs))) (field_spellings (plain_fields xs)) c.loop-field.invariant.0 c.loop-field.invariant.2) in
    let first = field-shorter x later in
    let all : length (field_spellings (plain_fields xs)) ≡ length (field_spellings (plain_fields c.args.fields.now.items)) =
    ap (λ (ys : List Field). length (field_spellings (plain_fields ys))) c.deref-field-items.ensures.value in
    let smaller : 2 * length (payload (plain_tree x.tree)) < 2 * length (field_spellings (plain_fields c.args.fields.now.items)) + 1 = omega arith in
    search rules

pub push_payload-returns-in_ok-push_list_head-in-List-clause-ok : goal.push_payload-returns-in_ok-push_list_head-in-List-clause-ok
push_payload-returns-in_ok-push_list_head-in-List-clause-ok t c =
    let element = c.in-List.element in
    let items = c.in-List.items.items in
    let is = ap plain_tree c.in-List.is ∙ plain-List element c.in-List.items in
    let many : c.len.result ≡ count (plain_trees items) = omega (arith, c.len.ensures, c.in-List.items.ok.0, count-plain items) in
    let head : c.push_list_head.new.out.items ≡ c.args.out.now.items ++ (element ∷ unsigned w32 (count (plain_trees items))) =
    c.in_ok-push_list_head-in-List.ensures.ok ∙ ap (λ (n : ℕ). c.args.out.now.items ++ (element ∷ unsigned w32 n)) many in
    then-ok c.push_items.result c.push_items.ensures.ok (λ more.
    more ∙ ap (λ (s : List ℕ). s ++ item_payloads (plain_trees items)) head ∙ append_assoc c.args.out.now.items (element ∷ unsigned w32 (count (plain_trees items))) (item_payloads (plain_trees items))
    ∙ ap (λ (p : PlainTree). c.args.out.now.items ++ payload p) (sym is))
