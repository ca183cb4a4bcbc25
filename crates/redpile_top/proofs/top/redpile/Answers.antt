use Rattle.std.proofs.Common.{◌∙◌, map, sym, subst, string_bytes}
use Rattle.redpile_top.specs.declared.status.Status.{Status}
use Rattle.redpile_top.specs.Forms.{form_of}
use Rattle.redpile_top.specs.Ends.{Ran}
use Rattle.redpile_top.specs.Clauses.{BuildClause, BlockClause, ScriptClause, OrderClause, GraphClause, FrontClause, CompleteClause}
use Rattle.redpile_top.proofs.Endings.{build_done, block_done, script_done, order_done, graph_done, build_failed, block_failed, script_failed, order_failed, graph_failed, complete_failed, front_failed, nothing_failed, never_done, line_written}
use Rattle.redpile_top.proofs.top.redpile.Goals as goal

pub returns-in-Ok-clause-build : goal.returns-in-Ok-clause-build
returns-in-Ok-clause-build g c =
    let names = map string_bytes c.args.words.now in
    let told = g.I.Inputs.file c.args.inputs.now in
    build_done told names _ _ _ _ _ (form_of names) (subst (Ran (form_of names) told names _ _ _ _ _) c.in-Ok.is c.run-ending.ensures.ran)

pub returns-in-Ok-clause-block : goal.returns-in-Ok-clause-block
returns-in-Ok-clause-block g c =
    let names = map string_bytes c.args.words.now in
    let told = g.I.Inputs.file c.args.inputs.now in
    block_done told names _ _ _ _ _ (form_of names) (subst (Ran (form_of names) told names _ _ _ _ _) c.in-Ok.is c.run-ending.ensures.ran)

pub returns-in-Ok-clause-script : goal.returns-in-Ok-clause-script
returns-in-Ok-clause-script g c =
    let names = map string_bytes c.args.words.now in
    let told = g.I.Inputs.file c.args.inputs.now in
    script_done told names _ _ _ _ _ (form_of names) (subst (Ran (form_of names) told names _ _ _ _ _) c.in-Ok.is c.run-ending.ensures.ran)

pub returns-in-Ok-clause-done : goal.returns-in-Ok-clause-done
returns-in-Ok-clause-done g c e =
    let names = map string_bytes c.args.words.now in
    let told = g.I.Inputs.file c.args.inputs.now in
    let ran : Ran (form_of names) told names _ _ _ _ _ _ = subst (Ran (form_of names) told names _ _ _ _ _) c.in-Ok.is c.run-ending.ensures.ran in
    ran.done

pub returns-in-Err-clause-build : goal.returns-in-Err-clause-build
returns-in-Err-clause-build g c =
    let names = map string_bytes c.args.words.now in
    let told = g.I.Inputs.file c.args.inputs.now in
    subst (λ (s : Status). BuildClause (form_of names) told names s) (sym c.status_of.ensures)
    (build_failed told names _ _ _ _ _ c.in-Err.fault (form_of names) (subst (Ran (form_of names) told names _ _ _ _ _) c.in-Err.is c.run-ending.ensures.ran))

pub returns-in-Err-clause-block : goal.returns-in-Err-clause-block
returns-in-Err-clause-block g c =
    let names = map string_bytes c.args.words.now in
    let told = g.I.Inputs.file c.args.inputs.now in
    subst (λ (s : Status). BlockClause (form_of names) told names s) (sym c.status_of.ensures)
    (block_failed told names _ _ _ _ _ c.in-Err.fault (form_of names) (subst (Ran (form_of names) told names _ _ _ _ _) c.in-Err.is c.run-ending.ensures.ran))

pub returns-in-Err-clause-script : goal.returns-in-Err-clause-script
returns-in-Err-clause-script g c =
    let names = map string_bytes c.args.words.now in
    let told = g.I.Inputs.file c.args.inputs.now in
    subst (λ (s : Status). ScriptClause (form_of names) told names s) (sym c.status_of.ensures)
    (script_failed told names _ _ _ _ _ c.in-Err.fault (form_of names) (subst (Ran (form_of names) told names _ _ _ _ _) c.in-Err.is c.run-ending.ensures.ran))

pub returns-in-Err-clause-complete : goal.returns-in-Err-clause-complete
returns-in-Err-clause-complete g c =
    let names = map string_bytes c.args.words.now in
    let told = g.I.Inputs.file c.args.inputs.now in
    subst (λ (s : Status). CompleteClause (form_of names) told names s) (sym c.status_of.ensures)
    (complete_failed told names _ _ _ _ _ c.in-Err.fault (form_of names) (subst (Ran (form_of names) told names _ _ _ _ _) c.in-Err.is c.run-ending.ensures.ran))

pub returns-in-Err-clause-front : goal.returns-in-Err-clause-front
returns-in-Err-clause-front g c =
    let names = map string_bytes c.args.words.now in
    let told = g.I.Inputs.file c.args.inputs.now in
    subst (λ (s : Status). FrontClause (form_of names) told names (g.O.Sink.written c.args.out.now) (g.O.Sink.written c.run-ending.new.out) s) (sym c.status_of.ensures)
    (front_failed told names _ _ _ _ _ c.in-Err.fault (form_of names) (subst (Ran (form_of names) told names _ _ _ _ _) c.in-Err.is c.run-ending.ensures.ran))

pub returns-in-Err-clause-done : goal.returns-in-Err-clause-done
returns-in-Err-clause-done g c e = absurd (never_done c.in-Err.fault (sym c.status_of.ensures ∙ e))

pub returns-in-Err-clause-quiet : goal.returns-in-Err-clause-quiet
returns-in-Err-clause-quiet g c e = absurd (never_done c.in-Err.fault (sym c.status_of.ensures ∙ e))

pub returns-in-Err-clause-nothing : goal.returns-in-Err-clause-nothing
returns-in-Err-clause-nothing g c no_done no_write =
    let names = map string_bytes c.args.words.now in
    let told = g.I.Inputs.file c.args.inputs.now in
    nothing_failed told names _ _ _ _ _ c.in-Err.fault (form_of names) (subst (Ran (form_of names) told names _ _ _ _ _) c.in-Err.is c.run-ending.ensures.ran) (λ e. no_write (c.status_of.ensures ∙ e))

pub returns-in-Err-clause-order : goal.returns-in-Err-clause-order
returns-in-Err-clause-order g c =
    let names = map string_bytes c.args.words.now in
    let told = g.I.Inputs.file c.args.inputs.now in
    subst (λ (s : Status). OrderClause (form_of names) told names s) (sym c.status_of.ensures)
    (order_failed told names _ _ _ _ _ c.in-Err.fault (form_of names) (subst (Ran (form_of names) told names _ _ _ _ _) c.in-Err.is c.run-ending.ensures.ran))

pub returns-in-Ok-clause-order : goal.returns-in-Ok-clause-order
returns-in-Ok-clause-order g c =
    let names = map string_bytes c.args.words.now in
    let told = g.I.Inputs.file c.args.inputs.now in
    order_done told names _ _ _ _ _ (form_of names) (subst (Ran (form_of names) told names _ _ _ _ _) c.in-Ok.is c.run-ending.ensures.ran)

pub returns-in-Ok-clause-graph : goal.returns-in-Ok-clause-graph
returns-in-Ok-clause-graph g c =
    let names = map string_bytes c.args.words.now in
    let told = g.I.Inputs.file c.args.inputs.now in
    graph_done told names _ _ _ _ _ (form_of names) (subst (Ran (form_of names) told names _ _ _ _ _) c.in-Ok.is c.run-ending.ensures.ran)

pub returns-in-Err-clause-graph : goal.returns-in-Err-clause-graph
returns-in-Err-clause-graph g c =
    let names = map string_bytes c.args.words.now in
    let told = g.I.Inputs.file c.args.inputs.now in
    subst (λ (s : Status). GraphClause (form_of names) told names s) (sym c.status_of.ensures)
    (graph_failed told names _ _ _ _ _ c.in-Err.fault (form_of names) (subst (Ran (form_of names) told names _ _ _ _ _) c.in-Err.is c.run-ending.ensures.ran))

pub returns-in-Err-clause-line : goal.returns-in-Err-clause-line
returns-in-Err-clause-line g c no_done =
    let names = map string_bytes c.args.words.now in
    let told = g.I.Inputs.file c.args.inputs.now in
    let fault = c.in-Err.fault in
    let ran : Ran (form_of names) told names _ _ _ _ _ _ = subst (Ran (form_of names) told names _ _ _ _ _) c.in-Err.is c.run-ending.ensures.ran in
    record {
      fault = fault;
      stands_for = c.status_of.ensures;
      has_cause = ran.caused;
      wrote = line_written c.put_line-line.result _ _ _ _ _ c.put_line-line.ensures.all c.put_line-line.ensures.front c.put_line-line.ensures.cause;
    }
