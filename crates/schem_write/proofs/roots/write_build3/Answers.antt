use Rattle.std.proofs.Common.{pos, [], ◌∷◌, ◌++◌, sym, ap, ◌∙◌}
use Rattle.std.specs.Prelude.{codes}
use Rattle.nbt.specs.Plain.{plain_tree}
use Rattle.nbt.specs.declared.trees.Tree.TheVariants.{Compound}
use Rattle.nbt.proofs.Views.{plain-Compound}
use Rattle.schem_write.specs.Written.{head}
use Rattle.schematic.proofs.States.{ok_then}
use Rattle.schem_write.specs.Code.{plain_pairs}
use Rattle.schem_write.proofs.MadeRoots.{made3, made3-spelled, made3-bytes, made3-file}
use Rattle.schem_write.proofs.roots.write_build3.Goals as goal

pub spelled-requires : goal.spelled-requires
spelled-requires c =
    made3-spelled c.args.build.now _
    (made3 c.args.build.now (plain_pairs c.new-body.result.items) (plain_pairs c.push_body.new.fields.items) (plain_pairs c.push_head.new.fields.items) (plain_pairs c.push.new.fields.items)
    (plain_pairs c.push_metadata.new.fields.items) (plain_pairs c.push-2.new.fields.items) (plain_tree (Compound c.push_body.new.fields)) (plain_tree (Compound c.push_metadata.new.fields))
    c.pending.result.now (ap plain_pairs c.new-body.ensures.items) c.in_ok-push_body.ensures.fields
    (c.in_ok-push_head.ensures.fields ∙ ap (λ fs. plain_pairs fs ++ head (pos 3) c.args.build.now) (c.new-main.ensures.items ∙ sym c.new-body.ensures.items))
    (plain-Compound c.push_body.new.fields) c.in_ok-push.ensures c.in_ok-push_metadata.ensures c.pending.ensures.value
    (plain-Compound c.push_metadata.new.fields)
    (c.in_ok-push-2.ensures ∙ ap (λ fs. plain_pairs fs ++ (codes "Schematic", plain_tree (Compound c.push_metadata.new.fields)) ∷ []) (c.new-fields.ensures.items ∙ sym c.new-body.ensures.items))
    c.in_ok-push_body.ensures.whole c.in_ok-push_head.ensures.fits)

pub returns-clause-bytes : goal.returns-clause-bytes
returns-clause-bytes c =
    ok_then c.spelled.result _ _
    (λ bytes h. made3-bytes c.args.build.now _ bytes.items
    (made3 c.args.build.now (plain_pairs c.new-body.result.items) (plain_pairs c.push_body.new.fields.items) (plain_pairs c.push_head.new.fields.items) (plain_pairs c.push.new.fields.items)
    (plain_pairs c.push_metadata.new.fields.items) (plain_pairs c.push-2.new.fields.items) (plain_tree (Compound c.push_body.new.fields)) (plain_tree (Compound c.push_metadata.new.fields))
    c.pending.result.now (ap plain_pairs c.new-body.ensures.items) c.in_ok-push_body.ensures.fields
    (c.in_ok-push_head.ensures.fields ∙ ap (λ fs. plain_pairs fs ++ head (pos 3) c.args.build.now) (c.new-main.ensures.items ∙ sym c.new-body.ensures.items))
    (plain-Compound c.push_body.new.fields) c.in_ok-push.ensures c.in_ok-push_metadata.ensures c.pending.ensures.value
    (plain-Compound c.push_metadata.new.fields)
    (c.in_ok-push-2.ensures ∙ ap (λ fs. plain_pairs fs ++ (codes "Schematic", plain_tree (Compound c.push_metadata.new.fields)) ∷ []) (c.new-fields.ensures.items ∙ sym c.new-body.ensures.items))
    c.in_ok-push_body.ensures.whole c.in_ok-push_head.ensures.fits)
    h)
    c.spelled.ensures

pub returns-clause-file : goal.returns-clause-file
returns-clause-file c =
    ok_then c.spelled.result _ _
    (λ bytes h. made3-file c.args.build.now _ bytes.items
    (made3 c.args.build.now (plain_pairs c.new-body.result.items) (plain_pairs c.push_body.new.fields.items) (plain_pairs c.push_head.new.fields.items) (plain_pairs c.push.new.fields.items)
    (plain_pairs c.push_metadata.new.fields.items) (plain_pairs c.push-2.new.fields.items) (plain_tree (Compound c.push_body.new.fields)) (plain_tree (Compound c.push_metadata.new.fields))
    c.pending.result.now (ap plain_pairs c.new-body.ensures.items) c.in_ok-push_body.ensures.fields
    (c.in_ok-push_head.ensures.fields ∙ ap (λ fs. plain_pairs fs ++ head (pos 3) c.args.build.now) (c.new-main.ensures.items ∙ sym c.new-body.ensures.items))
    (plain-Compound c.push_body.new.fields) c.in_ok-push.ensures c.in_ok-push_metadata.ensures c.pending.ensures.value
    (plain-Compound c.push_metadata.new.fields)
    (c.in_ok-push-2.ensures ∙ ap (λ fs. plain_pairs fs ++ (codes "Schematic", plain_tree (Compound c.push_metadata.new.fields)) ∷ []) (c.new-fields.ensures.items ∙ sym c.new-body.ensures.items))
    c.in_ok-push_body.ensures.whole c.in_ok-push_head.ensures.fits)
    h)
    c.spelled.ensures
