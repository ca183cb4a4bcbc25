use Rattle.std.proofs.Common.{ap, sym, subst, ◌∙◌}
use Rattle.report.specs.declared.Counts.{Counts}
use Rattle.graph_machine.specs.Playing.{state_in}
use Rattle.player.specs.Played.{WroteGraphRun, with_events}
use Rattle.player.proofs.Going.{on_err_holds}
use Rattle.player.proofs.GraphRuns.{whole_text, part_text}
use Rattle.player.proofs.graph_run.put_graph.Goals as goal

pub returns-in_err-put_run-clause-front : goal.returns-in_err-put_run-clause-front
returns-in_err-put_run-clause-front g c =
    let play = c.args.play.now in
    on_err_holds c.from_residual.result _
    (part_text play.machine.nodes play.counts c.args.script.now.acts c.requires.ready.has.nodes c.requires.ready.has.links play.is_ordered c.args.header.now
    (g.O.Sink.written c.args.out.now) (g.O.Sink.written c.put_run.new.out) c.args.steps.now c.put_run.new.costs c.in_err-put_run.ensures.front)

pub returns-clause-done : goal.returns-clause-done
returns-clause-done g c =
    let play = c.args.play.now in
    let nodes = play.machine.nodes in
    let acts = c.args.script.now.acts in
    let before = g.O.Sink.written c.args.out.now in
    let now = g.O.Sink.written c.put_run.new.out in
    let after = c.put_run.new.player.machine in
    subst (λ (counts : Counts). WroteGraphRun play.is_ordered nodes c.args.header.now acts counts before now c.args.steps.now c.put_run.new.costs) (sym (c.with_events.ensures ∙ ap (with_events play.counts) c.events.ensures))
    (whole_text nodes play.counts acts c.requires.ready.has.nodes c.requires.ready.has.links play.is_ordered c.args.header.now before now after.events c.args.steps.now c.put_run.new.costs (state_in after) c.in_ok-put_run.ensures.done)
