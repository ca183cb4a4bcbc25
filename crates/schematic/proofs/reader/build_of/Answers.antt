use Rattle.nbt.specs.Plain.{PlainFields, plain_fields}
use Rattle.schematic.specs.File.{of_fields, of_cells, of_state, refusal_in, IsCause, plain_refusal}
use Rattle.schematic.proofs.Firsts.{err_is, cause_front, cause_behind}
use Rattle.schematic.proofs.States.{err_then}
use Rattle.schematic.proofs.reader.build_of.Goals as goal

pub returns-in_err-entries-clause-err : goal.returns-in_err-entries-clause-err
unfolding refusal_in
returns-in_err-entries-clause-err c =
    let R : PlainFields = plain_fields c.args.root.now.items in
    err_is c.from_residual.result c.in_err-entries.field-0.0 (λ e. IsCause (plain_refusal e) (refusal_in R)) c.from_residual.ensures.1
    (cause_front _ (of_fields R) _ c.in_err-entries.ensures.err)

pub returns-in_err-build-clause-err : goal.returns-in_err-build-clause-err
unfolding refusal_in
returns-in_err-build-clause-err c =
    let R : PlainFields = plain_fields c.args.root.now.items in
    err_is c.from_residual-in_err-build.result c.in_err-build.field-0.0 (λ e. IsCause (plain_refusal e) (refusal_in R)) c.from_residual-in_err-build.ensures.1
    (cause_behind _ (of_fields R) _ c.in_ok-entries.ensures.sound (cause_front _ (of_cells R) (of_state R) c.in_err-build.ensures.err))

pub returns-clause-err : goal.returns-clause-err
unfolding refusal_in
returns-clause-err c =
    let R : PlainFields = plain_fields c.args.root.now.items in
    err_then c.with_state.result _ _ (λ e h. cause_behind (plain_refusal e) (of_fields R) _ c.in_ok-entries.ensures.sound (cause_behind (plain_refusal e) (of_cells R) (of_state R) c.in_ok-build.ensures.sound h)) c.with_state.ensures.err
