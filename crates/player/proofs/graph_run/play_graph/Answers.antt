use Rattle.std.proofs.Common.{ap, sym, subst, ◌∙◌}
use Rattle.report.specs.declared.Counts.{Counts}
use Rattle.graph_machine.specs.Playing.{state_in}
use Rattle.player.specs.Played.{RanGraph, with_events}
use Rattle.player.proofs.GraphRuns.{ran}
use Rattle.player.proofs.graph_run.play_graph.Goals as goal

pub returns-clause-ran : goal.returns-clause-ran
returns-clause-ran g c =
    let play = c.args.play.now in
    let nodes = play.machine.nodes in
    let acts = c.args.script.now.acts in
    let after = c.play_on.new.player.machine in
    subst (λ (counts : Counts). RanGraph nodes acts counts c.play_on.new.shown (state_in after) c.args.steps.now c.play_on.new.costs) (sym (c.with_events.ensures ∙ ap (with_events play.counts) c.events.ensures))
    (ran nodes play.counts acts c.requires.started.nodes c.requires.started.links after.events c.args.steps.now c.play_on.new.costs (state_in after) c.play_on.new.shown c.play_on.ensures.shown c.play_on.ensures.done)
