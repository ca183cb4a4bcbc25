-- The graph is sound by its test, and stays sound.
use Rattle.std.proofs.Common.{sym, subst}
use Rattle.graph.specs.Sound.{IsSound}
use Rattle.graph.specs.Steps.{Prunes}
use Rattle.pass_frame.proofs.FrameSteps.{ran_sound}
use Rattle.prune.specs.Sample.{sample}
use Rattle.prune.specs.PruneLaws.{prune_sound}
use Rattle.prune.proofs.SampleSteps.{sound_where}
use Rattle.prune.proofs.tests.assert_left.Goals as goal

pub run-requires : goal.run-requires
run-requires g c = subst IsSound (sym c.in_ok-graph.ensures) (sound_where (sample c.args.nodes.now c.args.links.now) c.requires.sound)

pub run-requires-2 : goal.run-requires-2
run-requires-2 g c =
    ran_sound Prunes prune_sound c.in_ok-graph.graph.nodes c.run.new.graph.nodes c.run.result
    (subst IsSound (sym c.in_ok-graph.ensures) (sound_where (sample c.args.nodes.now c.args.links.now) c.requires.sound)) c.run.ensures.ran
