use Rattle.std.proofs.Common.{◌∙◌, ap}
use Rattle.std.specs.Prelude.{codes, FitsSigned}
use Rattle.std.specs.Int.{w32}
use Rattle.std.proofs.lemmas.Int.{to_z-of_z}
use Rattle.nbt.specs.Plain.{PlainFields}
use Rattle.nbt.specs.Named.{last_named}
use Rattle.schematic.specs.Fields.{int_in, data_version_of}
use Rattle.schematic.proofs.fields.data_version_of.Goals as goal

pub returns : goal.returns
unfolding data_version_of
returns c =
    let fits : FitsSigned w32 c.int_in.result = record { sfits = c.int_in.type_inv } in
    to_z-of_z w32 c.int_in.result fits
    ∙ (c.int_in.ensures ∙ ap int_in (c.named.ensures ∙ ap (λ (fs : PlainFields). last_named (codes "DataVersion") fs) c.main.ensures))
