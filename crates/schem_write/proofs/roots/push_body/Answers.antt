use Rattle.std.proofs.Common.{◌≡◌, ◌++◌, ◌∷◌, [], List, ℕ, length, ap, ◌∙◌, arith}
use Rattle.std.specs.Prelude.{codes}
use Rattle.nbt.specs.Plain.{PlainTree, PlainField, bytes, compound, fields_of}
use Rattle.rp_text.specs.declared.Raw.{Raw}
use Rattle.nbt.proofs.Views.{plain-Compound, plain-Bytes}
use Rattle.schem_write.specs.Code.{plain_pairs, texts_of}
use Rattle.schem_write.specs.PaletteTexts.{palette_of, cells_of, numbered_from}
use Rattle.schem_write.specs.BlockEntities.{entities_of}
use Rattle.schem_write.proofs.Joined.{three_more}
use Rattle.schem_write.proofs.roots.push_body.Goals as goal

pub numbered-requires : goal.numbered-requires
numbered-requires c = omega (arith, ap length c.as_slice.ensures.keys, c.in_ok-palette.ensures.few)

pub returns-clause-fields : goal.returns-clause-fields
returns-clause-fields c =
    let blocks = c.args.build.now.blocks in
    let old = plain_pairs c.args.fields.now.items in
    let raw : Raw = record { items = c.in_ok-palette.items } in
    let texts : plain_pairs c.in_ok-numbered.field-0.items ≡ numbered_from 0 (palette_of blocks) =
    c.in_ok-numbered.ensures ∙ ap (λ ks. numbered_from 0 (texts_of ks)) c.as_slice.ensures.keys ∙ ap (numbered_from 0) c.in_ok-palette.ensures.texts in
    three_more old (plain_pairs c.push.new.fields.items) (plain_pairs c.push-2.new.fields.items) (plain_pairs c.push-3.new.fields.items)
    (codes "Palette", compound (fields_of (numbered_from 0 (palette_of blocks))))
    (c.args.cells_name.now, bytes (cells_of blocks))
    (codes "BlockEntities", entities_of c.args.layout c.args.build.now)
    (c.in_ok-push.ensures ∙ ap (λ (t : PlainTree). old ++ (codes "Palette", t) ∷ []) (plain-Compound c.in_ok-numbered.field-0) ∙ ap (λ (fs : List PlainField). old ++ (codes "Palette", compound (fields_of fs)) ∷ []) texts)
    (c.in_ok-push-2.ensures ∙ ap (λ (t : PlainTree). plain_pairs c.push.new.fields.items ++ (c.args.cells_name.now, t) ∷ []) (plain-Bytes raw) ∙ ap (λ (bs : List ℕ). plain_pairs c.push.new.fields.items ++ (c.args.cells_name.now, bytes bs) ∷ []) c.in_ok-palette.ensures.cells)
    (c.in_ok-push-3.ensures ∙ ap (λ (t : PlainTree). plain_pairs c.push-2.new.fields.items ++ (codes "BlockEntities", t) ∷ []) c.in_ok-entities_of.ensures)
