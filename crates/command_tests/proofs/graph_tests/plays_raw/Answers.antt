use Rattle.compiler.proofs.CompiledLaws.{raw_is_sound, raw_takes}
use Rattle.player.proofs.Scripts.{acts_taken}
use Rattle.command_tests.proofs.graph_tests.plays_raw.Goals as goal

pub play-requires-clause-sound : goal.play-requires-clause-sound
play-requires-clause-sound g c = raw_is_sound c.args.build.now c.cells.ensures.whole c.marks.result.now c.in_ok-graph.graph.nodes c.in_ok-graph.ensures

pub play-requires-clause-taken : goal.play-requires-clause-taken
play-requires-clause-taken g c =
    let b = c.args.build.now in
    let marks = c.marks.result.now in
    let acts = c.in_ok-script.script.acts in
    raw_takes b c.cells.ensures.whole marks c.in_ok-graph.graph.nodes c.in_ok-graph.ensures acts (acts_taken b marks acts c.in_ok-script.ensures.fit.clicks)
