use Rattle.std.proofs.Common.{◌++◌, ◌∷◌, [], ℕ, ℤ, ap, ◌∙◌}
use Rattle.std.specs.Int.{w32}
use Rattle.std.proofs.lemmas.Int.{to_z-of_z}
use Rattle.nbt.specs.Plain.{int}
use Rattle.std.specs.Prelude.{codes}
use Rattle.schem_write.specs.Code.{plain_pairs}
use Rattle.schem_write.specs.Written.{size}
use Rattle.schem_write.proofs.Joined.{five_more}
use Rattle.schem_write.proofs.roots.push_head.Goals as goal

pub returns-clause-fields : goal.returns-clause-fields
returns-clause-fields c =
    five_more (plain_pairs c.args.fields.now.items) (plain_pairs c.push_int.new.fields.items) (plain_pairs c.push_int-2.new.fields.items)
    (plain_pairs c.push_size.new.fields.items) (plain_pairs c.push_size-2.new.fields.items) (plain_pairs c.push_size-3.new.fields.items)
    (codes "Version", int c.args.version) (codes "DataVersion", int c.args.build.now.data_version)
    (codes "Width", size c.args.build.now.width) (codes "Height", size c.args.build.now.height) (codes "Length", size c.args.build.now.depth)
    (c.in_ok-push_int.ensures ∙ ap (λ (z : ℤ). plain_pairs c.args.fields.now.items ++ (codes "Version", int z) ∷ []) (to_z-of_z w32 c.args.version c.ranges.version))
    (c.in_ok-push_int-2.ensures ∙ ap (λ (z : ℤ). plain_pairs c.push_int.new.fields.items ++ (codes "DataVersion", int z) ∷ []) (to_z-of_z w32 c.data_version.result (record { sfits = c.data_version.type_inv }) ∙ c.data_version.ensures))
    (c.in_ok-push_size.ensures ∙ ap (λ (n : ℕ). plain_pairs c.push_int-2.new.fields.items ++ (codes "Width", size n) ∷ []) c.width.ensures.value)
    (c.in_ok-push_size-2.ensures ∙ ap (λ (n : ℕ). plain_pairs c.push_size.new.fields.items ++ (codes "Height", size n) ∷ []) c.height.ensures.value)
    (c.in_ok-push_size-3.ensures ∙ ap (λ (n : ℕ). plain_pairs c.push_size-2.new.fields.items ++ (codes "Length", size n) ∷ []) c.length.ensures.value)
