use Rattle.std.proofs.Common.{List, subst}
use Rattle.compiler.proofs.BuildPlaces.{compiled_blocks}
use Rattle.compiler.proofs.CompiledLaws.{compiled_sound}
use Rattle.compiler.specs.Compiled.{Compiled}
use Rattle.compiler.specs.declared.Keep.TheVariants.{All}
use Rattle.graph_machine.specs.Playing.{state_in}
use Rattle.redpile_top.proofs.Compiling.{graph_takes}
use Rattle.redpile_top.proofs.Saving.{ran_is_played, saves_run}
use Rattle.redpile_top.proofs.commands.saved.Goals as goal

pub play_silently-requires-clause-sound : goal.play_silently-requires-clause-sound
play_silently-requires-clause-sound g c = compiled_sound c.args.build.now c.cells.ensures.whole c.args.script.now.marks All c.in_ok-graph.graph.nodes
    (subst (λ (marks : List _). Compiled c.args.build.now marks All c.in_ok-graph.graph.nodes) c.marks.ensures c.in_ok-graph.ensures)

pub play_silently-requires-clause-taken : goal.play_silently-requires-clause-taken
play_silently-requires-clause-taken g c = graph_takes c.args.build.now c.cells.ensures.whole c.args.script.now All c.in_ok-graph.graph.nodes
    (subst (λ (marks : List _). Compiled c.args.build.now marks All c.in_ok-graph.graph.nodes) c.marks.ensures c.in_ok-graph.ensures) c.requires.fit

pub give_back-requires-clause-sound : goal.give_back-requires-clause-sound
give_back-requires-clause-sound g c = compiled_sound c.args.build.now c.cells.ensures.whole c.args.script.now.marks All c.in_ok-graph.graph.nodes
    (subst (λ (marks : List _). Compiled c.args.build.now marks All c.in_ok-graph.graph.nodes) c.marks.ensures c.in_ok-graph.ensures)

pub give_back-requires-clause-blocks : goal.give_back-requires-clause-blocks
give_back-requires-clause-blocks g c = record {
  blocks = compiled_blocks c.args.build.now c.args.script.now.marks All c.in_ok-graph.graph.nodes
      (subst (λ (marks : List _). Compiled c.args.build.now marks All c.in_ok-graph.graph.nodes) c.marks.ensures c.in_ok-graph.ensures);
}

pub give_back-requires-clause-played : goal.give_back-requires-clause-played
give_back-requires-clause-played g c = ran_is_played c.args.script.now c.in_ok-graph.graph.nodes c.in_ok-end.end.counts c.in_ok-end.end.values.items (state_in c.in_ok-end.end.machine) _ _ c.in_ok-end.ensures.ran

pub returns : goal.returns
returns g c =
    saves_run c.args.build.now c.cells.ensures.whole c.args.script.now c.in_ok-graph.graph.nodes
    (subst (λ (marks : List _). Compiled c.args.build.now marks All c.in_ok-graph.graph.nodes) c.marks.ensures c.in_ok-graph.ensures)
    c.in_ok-end.end.counts c.in_ok-end.end.values.items (state_in c.in_ok-end.end.machine) _ _ c.in_ok-end.ensures.ran c.give_back.result c.give_back.ensures
