use Rattle.nbt.specs.Plain.{PlainRoot, plain_root}
use Rattle.schematic.specs.File.{plain_refusal}
use Rattle.schematic.proofs.Standing.{few_pending}
use Rattle.schematic.proofs.States.{err_then}
use Rattle.schematic.proofs.Verdicts.{file_by, refuses_by}
use Rattle.schematic.proofs.reader.read_build.Goals as goal

pub build_of-requires : goal.build_of-requires
build_of-requires c = record { few = few_pending c.args.bytes.now (plain_root c.in-Ok.root) c.in-Ok.ensures.ok }

pub returns-in-Ok-clause-ok : goal.returns-in-Ok-clause-ok
returns-in-Ok-clause-ok c = file_by c.args.bytes.now (plain_root c.in-Ok.root) c.build_of.result c.in-Ok.ensures.ok c.build_of.ensures.build c.build_of.ensures.sound

pub returns-in-Ok-clause-err : goal.returns-in-Ok-clause-err
returns-in-Ok-clause-err c =
    let root : PlainRoot = plain_root c.in-Ok.root in
    err_then c.build_of.result _ _ (λ e h. refuses_by c.args.bytes.now root (plain_refusal e) c.in-Ok.ensures.ok h) c.build_of.ensures.err
