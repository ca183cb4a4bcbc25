use Rattle.std.proofs.Common.{ap}
use Rattle.schematic.proofs.States.{ok_then}
use Rattle.schem_write.specs.Code.{plain_pairs}
use Rattle.schem_write.proofs.MadeRoots.{made, made-spelled, made-bytes, made-file}
use Rattle.schem_write.proofs.roots.write_build.Goals as goal

pub spelled-requires : goal.spelled-requires
spelled-requires c =
    made-spelled c.args.build.now _
    (made c.args.build.now (plain_pairs c.new-fields.result.items) (plain_pairs c.push_head.new.fields.items) (plain_pairs c.push_body.new.fields.items) (plain_pairs c.push_metadata.new.fields.items)
    c.pending.result.now (ap plain_pairs c.new-fields.ensures.items) c.in_ok-push_head.ensures.fields c.in_ok-push_body.ensures.fields c.in_ok-push_metadata.ensures c.pending.ensures.value
    c.in_ok-push_body.ensures.whole c.in_ok-push_head.ensures.fits)

pub returns-clause-bytes : goal.returns-clause-bytes
returns-clause-bytes c =
    ok_then c.spelled.result _ _
    (λ bytes h. made-bytes c.args.build.now _ bytes.items
    (made c.args.build.now (plain_pairs c.new-fields.result.items) (plain_pairs c.push_head.new.fields.items) (plain_pairs c.push_body.new.fields.items) (plain_pairs c.push_metadata.new.fields.items)
    c.pending.result.now (ap plain_pairs c.new-fields.ensures.items) c.in_ok-push_head.ensures.fields c.in_ok-push_body.ensures.fields c.in_ok-push_metadata.ensures c.pending.ensures.value
    c.in_ok-push_body.ensures.whole c.in_ok-push_head.ensures.fits)
    h)
    c.spelled.ensures

pub returns-clause-file : goal.returns-clause-file
returns-clause-file c =
    ok_then c.spelled.result _ _
    (λ bytes h. made-file c.args.build.now _ bytes.items
    (made c.args.build.now (plain_pairs c.new-fields.result.items) (plain_pairs c.push_head.new.fields.items) (plain_pairs c.push_body.new.fields.items) (plain_pairs c.push_metadata.new.fields.items)
    c.pending.result.now (ap plain_pairs c.new-fields.ensures.items) c.in_ok-push_head.ensures.fields c.in_ok-push_body.ensures.fields c.in_ok-push_metadata.ensures c.pending.ensures.value
    c.in_ok-push_body.ensures.whole c.in_ok-push_head.ensures.fits)
    h)
    c.spelled.ensures
