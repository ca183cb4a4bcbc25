use Rattle.std.proofs.Common.{List, ap, sym, ◌∙◌, subst}
use Rattle.circuit.specs.Taken.{EachActTaken}
use Rattle.build.specs.Outputs.{outputs}
use Rattle.graph.specs.GraphCircuit.{graph_circuit}
use Rattle.report.specs.Header.{header}
use Rattle.compiler.proofs.CompiledLaws.{compiled_sound}
use Rattle.compiler.specs.Compiled.{Compiled}
use Rattle.compiler.specs.declared.Keep.{Keep}
use Rattle.player.specs.Started.{Ready}
use Rattle.redpile_top.specs.Written.{WroteBehind, WroteBehindPrefix}
use Rattle.redpile_top.proofs.Compiling.{graph_takes, wrote_run, began_run, ended_whole, ended_front}
use Rattle.redpile_top.proofs.commands.run_compiled.Goals as goal

pub new-requires : goal.new-requires
new-requires g c = compiled_sound c.args.build.now c.cells.ensures.whole c.args.script.now.marks c.keep_of.result c.in_ok-graph.graph.nodes
    (subst (λ (marks : List _). Compiled c.args.build.now marks c.keep_of.result c.in_ok-graph.graph.nodes) c.marks.ensures c.in_ok-graph.ensures)

pub put_ready-requires : goal.put_ready-requires
put_ready-requires g c =
    subst (λ (ready : Ready). EachActTaken (graph_circuit ready.nodes) c.args.script.now.acts) (sym c.in_ok-ready.ensures)
    (graph_takes c.args.build.now c.cells.ensures.whole c.args.script.now c.keep_of.result c.in_ok-graph.graph.nodes
    (subst (λ (marks : List _). Compiled c.args.build.now marks c.keep_of.result c.in_ok-graph.graph.nodes) c.marks.ensures c.in_ok-graph.ensures) c.requires.fit)

pub returns-in-Ok : goal.returns-in-Ok
returns-in-Ok g c =
    let b = c.args.build.now in
    let script = c.args.script.now in
    let nodes = c.in_ok-graph.graph.nodes in
    let before = g.O.Sink.written c.args.out.now in
    let now = g.O.Sink.written c.put_ready.new.out in
    let compiled = subst (λ (keep : Keep). Compiled b script.marks keep nodes) c.keep_of.ensures (subst (λ (marks : List _). Compiled b marks c.keep_of.result nodes) c.marks.ensures c.in_ok-graph.ensures) in
    let done = subst (λ (ready : Ready). WroteBehind c.deref-2.result.now ready.is_ordered ready.nodes ready.header script.acts before now) c.in_ok-ready.ensures c.in-Ok.ensures.done in
    let ordered = subst (λ (in_order : _). WroteBehind c.deref-2.result.now in_order nodes (header c.deref.result.now) script.acts before now) c.is_ordered.ensures done in
    ended_whole _ _ _ _ _ _
    (wrote_run c.args.with_graph b c.cells.ensures.whole script nodes c.deref-2.result.now (header c.deref.result.now) (c.deref-2.ensures.value ∙ c.in_ok-front.ensures)
    (ap header (c.deref.ensures.value ∙ c.in_ok-places.ensures ∙ ap (outputs b) c.marks-2.ensures)) before now c.args.nodes compiled ordered)
    c.in-Ok.ensures.cause.later

pub returns : goal.returns
returns g c =
    let b = c.args.build.now in
    let script = c.args.script.now in
    let nodes = c.in_ok-graph.graph.nodes in
    let before = g.O.Sink.written c.args.out.now in
    let now = g.O.Sink.written c.put_ready.new.out in
    let compiled = subst (λ (keep : Keep). Compiled b script.marks keep nodes) c.keep_of.ensures (subst (λ (marks : List _). Compiled b marks c.keep_of.result nodes) c.marks.ensures c.in_ok-graph.ensures) in
    let part = subst (λ (ready : Ready). WroteBehindPrefix c.deref-2.result.now ready.is_ordered ready.nodes ready.header script.acts before now) c.in_ok-ready.ensures c.in-Err.ensures.front in
    let ordered = subst (λ (in_order : _). WroteBehindPrefix c.deref-2.result.now in_order nodes (header c.deref.result.now) script.acts before now) c.is_ordered.ensures part in
    ended_front _ _ _ _ _
    (began_run c.args.with_graph b c.cells.ensures.whole script nodes c.deref-2.result.now (header c.deref.result.now) (c.deref-2.ensures.value ∙ c.in_ok-front.ensures)
    (ap header (c.deref.ensures.value ∙ c.in_ok-places.ensures ∙ ap (outputs b) c.marks-2.ensures)) before now c.args.nodes compiled ordered)
    c.in-Err.ensures.cause.failed c.in-Err.ensures.cause.later
